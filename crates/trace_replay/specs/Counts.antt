-- What counts by key say of the keys that were added.
use Rattle.std.specs.Prelude.{◌≡◌, ℕ, List, Bool, count_by, unwrap_or}
use Rattle.indexmap.specs.IndexMap.{get}
use Rattle.trace_replay.specs.declared.counts.Counts.{Counts}

-- how often the key was added
abbrev pub count_at : {K : Type 0} → (K → K → Bool) → Counts K → K → ℕ
count_at same counts key = unwrap_or (get same counts.by_key key) 0

-- each key is counted as often as it stands among these
abbrev pub AreCounts : {K : Type 0} → (K → K → Bool) → List K → Counts K → Type 0
AreCounts {K} same keys counts = (key : K) → count_at same counts key ≡ count_by (same key) keys

-- the two count each key alike
abbrev pub CountAlike : {K : Type 0} → (K → K → Bool) → Counts K → Counts K → Type 0
CountAlike {K} same mine others = (key : K) → count_at same mine key ≡ count_at same others key
