-- The grammar of what stands before the condition, in one place: the initialization block and parameters, and processes.
pub use Rattle.litmus_parse.specs.ProcessHeaders.{Item, Items, Listed, Parameters, Process, Signed, Value, mention_of, name_of, parameter_of}
pub use Rattle.litmus_parse.specs.ProcessHeaders.{bare, given, in_atomic_init, last, more, negative, none, plain, positive, some, typed, typed_given}
pub use Rattle.litmus_parse.specs.Processes.{IsProcess, Processes, last, more, process, process_name}
