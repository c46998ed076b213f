pub mod AtomicCalls
pub mod BitCalls
pub mod CallNotes
pub mod LockCalls
pub mod NoteRows
pub mod OtherCalls
pub mod SequenceCalls
pub mod SharedLines
