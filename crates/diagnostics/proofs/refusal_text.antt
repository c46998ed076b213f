mod SomeLine
