pub mod refusal_text
pub mod option_diagnostics
pub mod text_check
pub mod check_output
