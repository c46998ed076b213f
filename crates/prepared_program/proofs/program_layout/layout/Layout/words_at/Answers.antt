-- One word more.
use Rattle.std.proofs.Common.{◌≡◌, ◌∙◌, ◌+◌, ◌*◌, ◌/◌, ◌<◌, ◌++◌, ◌∷◌, ℕ, [], List, ap, arith, get_or, length, map, sym, take}
use Rattle.std.proofs.lemmas.List.{map-append, take_all, take_more}
use Rattle.access_types.specs.History.{initial_memory, value_from}
use Rattle.prepared_program.proofs.program_layout.layout.Layout.words_at.Goals as goal

word_more : (f : ℕ → ℕ) (addresses words more : List ℕ) (i word : ℕ) → i < length addresses → words ≡ map f (take i addresses)
    → word ≡ f (get_or addresses i 0) → more ≡ words ++ word ∷ [] → more ≡ map f (take (i + 1) addresses)
word_more f addresses words more i word within so_far is longer =
    longer ∙ ap (λ (ws : List ℕ). ws ++ word ∷ []) so_far ∙ ap (λ (w : ℕ). map f (take i addresses) ++ w ∷ []) is
    ∙ sym (ap (map f) (take_more addresses i 0 within) ∙ map-append f (take i addresses) (get_or addresses i 0 ∷ []))

pub loop-address-preserved : goal.loop-address-preserved
loop-address-preserved c = record {
  room = omega (arith, c.push_reserved.ensures.capacity, c.loop-address.invariant.room);
  made = omega (arith, c.push_reserved.ensures.len, c.loop-address.invariant.made);
  words = word_more (λ address. value_from (initial_memory c.args.self.now.variables.items) (8 * (address / 8)) 8)
      c.args.addresses.now c.loop-address.words.items c.push_reserved.new.self.items c.loop-address.address-index c.word_at.result
      c.loop-address-test.true c.loop-address.invariant.words c.word_at.ensures c.push_reserved.ensures.items;
}

pub returns : goal.returns
returns c = c.loop-address.invariant.words
    ∙ ap (map (λ address. value_from (initial_memory c.args.self.now.variables.items) (8 * (address / 8)) 8))
    (take_all c.loop-address.address-index c.args.addresses.now c.loop-address-test.false)
