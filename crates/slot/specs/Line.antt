-- What a call does to a watch word or a pair word in one step: what it answers, and what stands
-- there after it.
pub record Line (Answer State : Type 0) : Type 0 where
  pub answer : Answer
  pub after : State
