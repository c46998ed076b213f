mod EachWord
mod WhatComes
