pub mod Lists
pub mod step_schedule
pub mod place_list
pub mod program_layout
pub mod program_sites
