mod HeadLemmas
mod StatementLemmas
mod TokenLemmas
