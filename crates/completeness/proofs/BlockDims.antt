-- What belongs to a piece of a dimension that is split once: how many blocks there are, and where parts and regions of loops end.
use Rattle.std.proofs.Common.{◌≡◌, ℕ, ◌+◌, ◌-◌, ◌*◌, ◌<◌, ◌≤◌, Bool, true, false, ◌||◌, List, [], ◌∷◌, refl, sym, ap, ◌∙◌, inl, inr, arith}
use Rattle.std.specs.Prelude.{◌==◌, ◌/◌, ◌%◌, if◌then◌else◌}
use Rattle.std.proofs.lemmas.Bool.Decides.{nat_tests}
use Rattle.std.proofs.Math.Nat.{div-mul-le_self, lt-div-mul-add}
use Rattle.meaning.specs.Names.{same_name}
use Rattle.soundness.specs.Claims.{In}
use Rattle.soundness.proofs.Refines.{name_refl, name_true}
use Rattle.sched.specs.declared.schedule.Split.{Split}
use Rattle.sched.specs.Numbers.{blocks, numbers_named, last_number}
use Rattle.sched.proofs.Numbering.{whole_blocks}
use Rattle.blocks.specs.Blocks.{split_end, split_claim_end, end_of, claim_end_of, LayText}
use Rattle.blocks.specs.Blocks.{uncut, joined, part_of}
use Rattle.completeness.proofs.Halves.{AreOthers, by_whole}
use Rattle.completeness.proofs.Lanes.{AreOnce}

-- ---- numbers of blocks

-- the number of the last block
abbrev pub top : ℕ → ℕ → ℕ
top count size = (count - 1) / size

module _ (count size : ℕ) (some : 0 < count) (wide : 0 < size) where
  pub blocks_top : blocks count size ≡ top count size + 1
  blocks_top =
      let one : (count == 0) ≡ false = grind (arith, nat_tests, some) in
      let two : (size == 0) ≡ false = grind (arith, nat_tests, wide) in
      λ j. if one j || two j then 0 else (count - 1) / size + 1

  pub top_low : top count size * size ≤ count - 1
  top_low = div-mul-le_self (count - 1) size

  -- all blocks together have all numbers
  pub top_high : count ≤ top count size * size + size
  top_high = (let less = lt-div-mul-add {a = count - 1} wide in omega (arith, less, some))

  -- and no more, where the last one is full
  pub top_full : count % size ≡ 0 → top count size * size + size ≤ count
  top_full none = (let are = blocks_top in whole_blocks count size (top count size) wide (omega (arith, are)) none)

-- ---- parts

pub apart_name : (x y : List ℕ) → (x ≡ y → ⊥) → same_name x y ≡ false
apart_name x y differ = of (same_name x y) refl
  where
    of : (b : Bool) → same_name x y ≡ b → same_name x y ≡ false
    of true e = absurd (differ (name_true x y e))
    of false e = e

module _ (l : LayText) where
  -- of a loop that none of these splits
  pub part_uncut : (cs : List Split) (x : List ℕ) → ((d : Split) → In d cs → d.whole ≡ x → ⊥) → part_of l x cs ≡ uncut l x
  part_uncut [] x none = refl
  part_uncut (c ∷ cs) x none =
      ap (λ (b : Bool). if b then joined l c cs (part_of l c.outer cs) (part_of l c.inner cs) else part_of l x cs) (apart_name c.whole x (none c (inl refl)))
      ∙ part_uncut cs x (λ d m. none d (inr m))

  pub end_uncut : (cs : List Split) (x : List ℕ) → ((d : Split) → In d cs → d.whole ≡ x → ⊥) → end_of l.numbers x cs ≡ last_number (numbers_named l.numbers x)
  end_uncut [] x none = refl
  end_uncut (c ∷ cs) x none =
      ap (λ (b : Bool). if b then split_end c (numbers_named l.numbers x) (end_of l.numbers c.outer cs) (end_of l.numbers c.inner cs) else end_of l.numbers x cs)
      (apart_name c.whole x (none c (inl refl))) ∙ end_uncut cs x (λ d m. none d (inr m))

  pub claim_uncut : (cs : List Split) (x : List ℕ) → ((d : Split) → In d cs → d.whole ≡ x → ⊥) → claim_end_of l.numbers x cs ≡ last_number (numbers_named l.numbers x)
  claim_uncut [] x none = refl
  claim_uncut (c ∷ cs) x none =
      ap (λ (b : Bool). if b then split_claim_end c (numbers_named l.numbers x) (claim_end_of l.numbers c.outer cs) else claim_end_of l.numbers x cs) (apart_name c.whole x (none c (inl refl)))
      ∙ claim_uncut cs x (λ d m. none d (inr m))

  -- of a loop that one of them splits
  pub record IsCutOnce (all : List Split) (c : Split) : Type 0 where
    pub rest : List Split
    pub part : part_of l c.whole all ≡ joined l c rest (uncut l c.outer) (uncut l c.inner)
    pub inner_end : end_of l.numbers c.inner rest ≡ last_number (numbers_named l.numbers c.inner)
    pub end : end_of l.numbers c.whole all ≡ split_end c (numbers_named l.numbers c.whole) (last_number (numbers_named l.numbers c.outer)) (last_number (numbers_named l.numbers c.inner))
    pub claim : claim_end_of l.numbers c.whole all ≡ split_claim_end c (numbers_named l.numbers c.whole) (last_number (numbers_named l.numbers c.outer))

  module _ (cuts : List Split) (others : AreOthers cuts) (once : AreOnce cuts) where
    cut_from : (cs : List Split) → ((d : Split) → In d cs → In d cuts) → (c : Split) → In c cuts → In c cs → IsCutOnce cs c
    cut_from [] sub c m there = absurd there
    cut_from (d ∷ cs) sub c m there = of (same_name d.whole c.whole) refl (λ k. cut_from cs (λ x q. sub x (inr q)) c m k)
      where
        same_split : same_name d.whole c.whole ≡ true → d ≡ c
        same_split e = by_whole cuts others d c (sub d (inl refl)) m (name_true d.whole c.whole e)

        outer_free : (e : Split) → In e cs → e.whole ≡ c.outer → ⊥
        outer_free e k = (once e c (sub e (inr k)) m).0

        inner_free : (e : Split) → In e cs → e.whole ≡ c.inner → ⊥
        inner_free e k = (once e c (sub e (inr k)) m).1

        here : same_name d.whole c.whole ≡ true → IsCutOnce (d ∷ cs) c
        here e =
            let is = same_split e in
            let outer = part_uncut cs c.outer outer_free in
            let inner = part_uncut cs c.inner inner_free in
            let outer_end = end_uncut cs c.outer outer_free in
            let inner_end = end_uncut cs c.inner inner_free in
            let outer_claim = claim_uncut cs c.outer outer_free in
            record {
              rest = cs;
              part = ap (λ (b : Bool). if b then joined l d cs (part_of l d.outer cs) (part_of l d.inner cs) else part_of l c.whole cs) e
                  ∙ ap (λ (e : Split). joined l e cs (part_of l e.outer cs) (part_of l e.inner cs)) is ∙ (λ j. joined l c cs (outer j) (inner j));
              inner_end = inner_end;
              end = ap (λ (b : Bool). if b then split_end d (numbers_named l.numbers c.whole) (end_of l.numbers d.outer cs) (end_of l.numbers d.inner cs) else end_of l.numbers c.whole cs) e
                  ∙ ap (λ (e : Split). split_end e (numbers_named l.numbers c.whole) (end_of l.numbers e.outer cs) (end_of l.numbers e.inner cs)) is
                  ∙ (λ j. split_end c (numbers_named l.numbers c.whole) (outer_end j) (inner_end j));
              claim = ap (λ (b : Bool). if b then split_claim_end d (numbers_named l.numbers c.whole) (claim_end_of l.numbers d.outer cs) else claim_end_of l.numbers c.whole cs) e
                  ∙ ap (λ (e : Split). split_claim_end e (numbers_named l.numbers c.whole) (claim_end_of l.numbers e.outer cs)) is
                  ∙ (λ j. split_claim_end c (numbers_named l.numbers c.whole) (outer_claim j));
            }

        later : same_name d.whole c.whole ≡ false → In c (d ∷ cs) → (In c cs → IsCutOnce cs c) → IsCutOnce (d ∷ cs) c
        later e (inl q) more =
            let clash : true ≡ false = sym (ap (λ (x : Split). same_name d.whole x.whole) q ∙ name_refl d.whole) ∙ e in
            absurd (cc clash)
        later e (inr k) more =
            let r = more k in
            record {
              rest = r.rest;
              part = ap (λ (b : Bool). if b then joined l d cs (part_of l d.outer cs) (part_of l d.inner cs) else part_of l c.whole cs) e ∙ r.part;
              inner_end = r.inner_end;
              end = ap (λ (b : Bool). if b then split_end d (numbers_named l.numbers c.whole) (end_of l.numbers d.outer cs) (end_of l.numbers d.inner cs) else end_of l.numbers c.whole cs) e ∙ r.end;
              claim = ap (λ (b : Bool). if b then split_claim_end d (numbers_named l.numbers c.whole) (claim_end_of l.numbers d.outer cs) else claim_end_of l.numbers c.whole cs) e ∙ r.claim;
            }

        of : (b : Bool) → same_name d.whole c.whole ≡ b → (In c cs → IsCutOnce cs c) → IsCutOnce (d ∷ cs) c
        of true e more = here e
        of false e more = later e there more

    pub cut_once : (c : Split) → In c cuts → IsCutOnce cuts c
    cut_once c m = cut_from cuts (λ d k. k) c m m
