-- Two standings keep the same: what was done, the registers, and how many calls had nothing to end.
use Rattle.std.specs.Prelude.{◌≡◌, List, [], ◌∷◌}
use Rattle.access_types.specs.declared.history.Happening.{Happening}
use Rattle.access_types.specs.declared.history.Happening.TheVariants as happenings
use Rattle.program_order.specs.Standing.{Standing}

-- the task did the same, has the same registers, and the same number of its calls had nothing to end
pub record StandAlike (one other : Standing) : Type 0 where
  pub progress : one.progress ≡ other.progress
  pub unbalanced : one.unbalanced ≡ other.unbalanced

-- it neither begins an access nor takes a lock or gives one back
abbrev pub IsOther : Happening → Type 0
IsOther (happenings.Begin a) = ⊥
IsOther (happenings.End a) = Unit {0}
IsOther (happenings.Read bytes value) = Unit {0}
IsOther (happenings.Write bytes value) = Unit {0}
IsOther (happenings.Lock lock) = ⊥
IsOther (happenings.Unlock lock) = ⊥
IsOther (happenings.Mark m) = Unit {0}

-- nor does any of these
abbrev pub AreOther : List Happening → Type 0
AreOther [] = Unit {0}
AreOther (happening ∷ later) = IsOther happening × AreOther later
