mod ArmingLemmas
mod CountLemmas
pub mod RoomLemmas
mod TouchLemmas
