-- Each phase of a handshake is a row of the table.
use Rattle.std.proofs.Common.{◌≡◌, ◌≢◌, inl, inr, ℕ, cond, eqb, List, None, Some, refl, sym, ap}
use Rattle.std.proofs.Common.{◌∙◌}
use Rattle.std.proofs.lemmas.Bool.{eq-eqb, ne_eqb}
use Rattle.slot.specs.Pair.{Halves}
use Rattle.slot_table.specs.declared.discipline.Part.TheVariants.{Taken}
use Rattle.slot_table.specs.Roles.{Stands, Free, Watched, TakenThere, Quiet}
use Rattle.slot_table.specs.Words.{Words}
use Rattle.slot_table.specs.declared.records.Record.{Record}
use Rattle.slot_table.proofs.Lists.{Keeps, fits_all, words_of}
use Rattle.slot_table.proofs.Phases as phases
use Rattle.slot_table.proofs.Phases.{Fits, Open}
use Rattle.slot_table.proofs.Views.{view}

-- a finder has taken the word, and a bystander has no part
taker : (finder word : ℕ)
    → cond (eqb finder finder) (Some (Taken word)) None ≡ Some (Taken word)
taker finder word = rw (eq-eqb finder finder refl) refl

bystander : (finder task word : ℕ)
    → task ≢ finder → cond (eqb finder task) (Some (Taken word)) None ≡ None
bystander finder task word apart = rw (ne_eqb finder task (λ e. apart (sym e))) refl

-- the halves of a pair
setter_half : {a b : Halves} → a ≡ b → a.setter ≡ b.setter
setter_half e = ap (λ (both : Halves). both.setter) e

finder_half : {a b : Halves} → a ≡ b → a.finder ≡ b.finder
finder_half e = ap (λ (both : Halves). both.finder) e

-- the row of the table in which an open arming stands
row : (index : ℕ) (words : Words) (records : List Record) (phase : phases.Phase)
    → Open index phase (view words records index) → Stands words records index
row index words records phases.Fresh h = Watched (record {
  setter = h.setter;
  word = h.word;
  is = h.word_is;
  above = h.above;
  armed = h.arming;
  stands = inl (record { sets = h.sets; naming = h.named; half = setter_half h.pair_is });
  half = finder_half h.pair_is;
  untaken = h.finder;
  untold = h.telling;
  alone = h.others;
})
row index words records (phases.Watching ticket) h = Watched (record {
  setter = h.setter;
  word = h.word;
  is = h.word_is;
  above = h.above;
  armed = h.arming;
  stands = inr (
    ticket,
    record { sets = h.sets; naming = h.named; own = h.owned; half = setter_half h.pair_is },
  );
  half = finder_half h.pair_is;
  untaken = h.finder;
  untold = h.telling;
  alone = h.others;
})
row index words records (phases.FreshTaken finder) h = TakenThere (record {
  setter = h.setter;
  finder = finder;
  word = h.word;
  is = h.word_is;
  two = h.two finder refl;
  armed = h.arming;
  taken = h.finder;
  stands = inl (record {
    finds = h.others finder (h.two finder refl) ∙ taker finder h.word;
    sets = inl (record { sets = h.sets; naming = h.named; half = setter_half h.pair_is });
    half = finder_half h.pair_is;
    telling = h.telling;
  });
  alone = λ task apart other. h.others task apart ∙ bystander finder task h.word other;
})
row index words records (phases.NamedTaken finder ticket) h = TakenThere (record {
  setter = h.setter;
  finder = finder;
  word = h.word;
  is = h.word_is;
  two = h.two finder refl;
  armed = h.arming;
  taken = h.finder;
  stands = inl (record {
    finds = h.others finder (h.two finder refl) ∙ taker finder h.word;
    sets = inr (
      ticket,
      inl (record { sets = h.sets; naming = h.named; own = h.owned; half = setter_half h.pair_is }),
    );
    half = finder_half h.pair_is;
    telling = h.telling;
  });
  alone = λ task apart other. h.others task apart ∙ bystander finder task h.word other;
})
row index words records (phases.NamedTold finder ticket telling) h = TakenThere (record {
  setter = h.setter;
  finder = finder;
  word = h.word;
  is = h.word_is;
  two = h.two finder refl;
  armed = h.arming;
  taken = h.finder;
  stands = inr (record {
    ticket = telling;
    named = ticket;
    own = h.owned.1;
    telling = h.telling;
    finds = h.others finder (h.two finder refl);
    sets = inl (
      inl (record
          { sets = h.sets; naming = h.named; own = h.owned.0; half = setter_half h.pair_is }),
      finder_half h.pair_is,
    );
  });
  alone = λ task apart other. h.others task apart;
})
row index words records (phases.HitTaken finder ticket) h = TakenThere (record {
  setter = h.setter;
  finder = finder;
  word = h.word;
  is = h.word_is;
  two = h.two finder refl;
  armed = h.arming;
  taken = h.finder;
  stands = inl (record {
    finds = h.others finder (h.two finder refl) ∙ taker finder h.word;
    sets = inr (
      ticket,
      inr (record { sets = h.sets; naming = h.named; own = h.owned; half = setter_half h.pair_is }),
    );
    half = finder_half h.pair_is;
    telling = h.telling;
  });
  alone = λ task apart other. h.others task apart ∙ bystander finder task h.word other;
})
row index words records (phases.HitTold finder ticket telling) h = TakenThere (record {
  setter = h.setter;
  finder = finder;
  word = h.word;
  is = h.word_is;
  two = h.two finder refl;
  armed = h.arming;
  taken = h.finder;
  stands = inr (record {
    ticket = telling;
    named = ticket;
    own = h.owned.1;
    telling = h.telling;
    finds = h.others finder (h.two finder refl);
    sets = inl (
      inr (record
          { sets = h.sets; naming = h.named; own = h.owned.0; half = setter_half h.pair_is }),
      finder_half h.pair_is,
    );
  });
  alone = λ task apart other. h.others task apart;
})
row index words records (phases.HitCleared finder ticket telling) h = TakenThere (record {
  setter = h.setter;
  finder = finder;
  word = h.word;
  is = h.word_is;
  two = h.two finder refl;
  armed = h.arming;
  taken = h.finder;
  stands = inr (record {
    ticket = telling;
    named = ticket;
    own = h.owned.1;
    telling = h.telling;
    finds = h.others finder (h.two finder refl);
    sets = inr (record { sets = h.sets; naming = h.named; own = h.owned.0; pair = h.pair_is });
  });
  alone = λ task apart other. h.others task apart;
})
row index words records (phases.Quiet ticket) h = Quiet (record {
  setter = h.setter;
  word = h.word;
  ticket = ticket;
  is = h.word_is;
  armed = h.arming;
  stands = inl (record {
    sets = h.sets;
    naming = h.named;
    own = h.owned;
    half = setter_half h.pair_is;
  });
  half = finder_half h.pair_is;
  untaken = h.finder;
  untold = h.telling;
  alone = h.others;
})
row index words records (phases.QuietCleared ticket) h = Quiet (record {
  setter = h.setter;
  word = h.word;
  ticket = ticket;
  is = h.word_is;
  armed = h.arming;
  stands = inr (record { sets = h.sets; naming = h.named; own = h.owned; pair = h.pair_is });
  half = finder_half h.pair_is;
  untaken = h.finder;
  untold = h.telling;
  alone = h.others;
})

row_of : (index : ℕ) (words : Words) (records : List Record)
    → Fits index (view words records index) → Stands words records index
row_of index words records (hears, inl idle) =
    Free (record { word = idle.word_is; pair = idle.pair_is; nobody = idle.nobody })
row_of index words records (hears, inr (phase, h)) = row index words records phase h

-- the table holds
pub stands_all : (page_slots locks : ℕ) (cells : List ℕ) (records : List Record)
    → Keeps page_slots locks cells records
    → (index : ℕ) → Stands (words_of page_slots locks cells records) records index
stands_all page_slots locks cells records rules index =
    row_of index (words_of page_slots locks cells records) records
    (fits_all page_slots locks cells records rules index)
