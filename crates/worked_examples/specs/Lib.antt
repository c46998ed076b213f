pub mod example_grammar
pub mod example_traces
