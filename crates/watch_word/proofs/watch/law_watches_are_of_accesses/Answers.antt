-- the access is a plain one in the second span of addresses, so that it is above the first page
use Rattle.std.proofs.Common.{◌≡◌, ◌+◌, ℕ, Bool, true, false, None, refl, arith}
use Rattle.access_types.specs.Access.{Access, IsInLimits}
use Rattle.access_types.specs.Kind.{write_flag}
use Rattle.access_types.specs.declared.kind.Kind.{Kind}
use Rattle.access_types.specs.declared.kind.Kind.TheVariants.{Plain}
use Rattle.access_types.specs.declared.kind.Operation.TheVariants.{Read, Write}
use Rattle.watch_word.specs.declared.layout.Layout.{Layout}
use Rattle.watch_word.specs.declared.layout.Layout.TheVariants.{W64, W32}
use Rattle.watch_word.specs.Layout.{address_span, masked}
use Rattle.watch_word.specs.Word.{Encodable, IsWatchWord, watch_in, watch_of, word_of}
use Rattle.watch_word.proofs.watch.law_watches_are_of_accesses.Goals as goal

-- a kind with this write flag
kind_with : Bool → Kind
kind_with true = Plain Write
kind_with false = Plain Read

write_flag-kind_with : (write : Bool) → write_flag (kind_with write) ≡ write
unfolding kind_with
write_flag-kind_with true = refl
write_flag-kind_with false = refl

access_for : Layout → ℕ → Access
access_for layout word = record {
  task = 0;
  site = 0;
  rep = 0;
  addr = (watch_in layout word).addr + address_span layout;
  size = (watch_in layout word).size;
  kind = kind_with (watch_in layout word).write;
  mask = None;
}

in_limits : (layout : Layout) (word : ℕ) → IsWatchWord layout word
    → IsInLimits (access_for layout word)
unfolding access_for watch_in masked
in_limits W64 word h =
    record { task = omega arith; site = omega arith; rep = omega arith; range = omega arith }
in_limits W32 word h =
    record { task = omega arith; site = omega arith; rep = omega arith; range = omega arith }

encodable : (layout : Layout) (word : ℕ) → IsWatchWord layout word
    → Encodable (access_for layout word)
unfolding access_for watch_in masked
encodable W64 word h = record { address = omega arith; has_bytes = omega arith; size = omega arith }
encodable W32 word h = record { address = omega arith; has_bytes = omega arith; size = omega arith }

word_of_access : (layout : Layout) (word : ℕ) → IsWatchWord layout word
    → word ≡ word_of layout (access_for layout word)
unfolding access_for word_of watch_in masked
word_of_access W64 word h = rw write_flag-kind_with (grind arith)
word_of_access W32 word h = rw write_flag-kind_with (grind arith)

says : (layout : Layout) (word : ℕ)
    → watch_in layout word ≡ watch_of layout (access_for layout word)
unfolding access_for watch_in masked
says W64 word = rw write_flag-kind_with (grind arith)
says W32 word = rw write_flag-kind_with (grind arith)

pub returns : goal.returns
returns c layout word h = record {
  access = access_for layout word;
  in_limits = in_limits layout word h;
  word_of_access =
      record { encodable = encodable layout word h; is = word_of_access layout word h };
  says = says layout word;
}
