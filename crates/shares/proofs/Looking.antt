-- Pieces with their own cells, to which what they look at is added one after another.
use Rattle.std.proofs.Common.{◌≡◌, ℕ, ◌+◌, ◌<◌, List, length, set, get_or, arith, ap, sym, ◌∙◌, subst, Some, inl, inr}
use Rattle.std.specs.Prelude.{slice_get, ◌⊎◌}
use Rattle.std.proofs.lemmas.Bool.{cases_eq, cases_lt}
use Rattle.std.proofs.lemmas.List.{get_or-set_same, get_or-set_other, length-set}
use Rattle.std.proofs.lemmas.Option.{slice_get-get_or, slice_get_within, get_or_from_slice_get}
use Rattle.plan.specs.Plan.{Plan}
use Rattle.plan.specs.Certificate.Certificate.{Certificate}
use Rattle.plan.specs.Certificate.Cells.{pieces}
use Rattle.orders.specs.declared.lists.Piece.{Piece}
use Rattle.headline.proofs.Lists.{at_below}
use Rattle.shares.specs.declared.lists.Looks.{Looks}
use Rattle.shares.specs.Layout.{own_list}
use Rattle.shares.specs.Made.{AreLooks, AreMade, HaveOwn, IsMade}

-- what stands at a place of a list of which one place was set
set_cases : {A : Type 0} (xs : List A) (k n : ℕ) (new x : A) → k < length xs → slice_get (set xs k new) n ≡ Some x → ((n ≡ k) × (new ≡ x)) ⊎ ((n ≡ k → ⊥) × (slice_get xs n ≡ Some x))
set_cases xs k n new x less at =
    let here = get_or_from_slice_get (set xs k new) n x x at in
    elim (cases_eq n k) [
      | inl same ↦ inl (same, sym (get_or-set_same xs k new x less) ∙ ap (λ (m : ℕ). get_or (set xs k new) m x) (sym same) ∙ here)
      | inr other ↦
          let long = length-set xs k new in
          let within = slice_get_within (set xs k new) n x at in
          inr (other, slice_get-get_or xs n x (omega (arith, long, within)) ∙ ap Some (sym (get_or-set_other xs k n new x other) ∙ here))
    ]

module _ (p : Plan) (c : Certificate) where
  -- all pieces have their own cells, and the first ones, so many, all their lists
  pub record AreMadeBefore (k : ℕ) (xs : List Piece) : Type 0 where
    pub own : HaveOwn p c xs
    pub made : (n : ℕ) (x : Piece) → n < k → slice_get xs n ≡ Some x → IsMade p c n x

  pub made_none : (xs : List Piece) → HaveOwn p c xs → AreMadeBefore 0 xs
  made_none xs own = record { own = own; made = λ n x less at. absurd (omega (arith, less)) }

  -- what a piece looks at put beside its own cells
  abbrev with_looks : Piece → Looks → Piece
  with_looks old looks = record { own = old.own; fetched = looks.fetched; needs = looks.needs }

  own_set : (xs : List Piece) (k : ℕ) (old : Piece) (looks : Looks) → HaveOwn p c xs → k < length xs → slice_get xs k ≡ Some old → HaveOwn p c (set xs k (with_looks old looks))
  own_set xs k old looks own less at = record {
    count = length-set xs k (with_looks old looks) ∙ own.count;
    each = λ n x there. elim (set_cases xs k n (with_looks old looks) x less there) [
      | inl same ↦ ap (λ (y : Piece). y.own) (sym same.1) ∙ own.each k old at ∙ ap (own_list p c) (sym same.0)
      | inr other ↦ own.each n x other.1
    ];
  }

  one_made : (k : ℕ) (old : Piece) (looks : Looks) → old.own ≡ own_list p c k → AreLooks p c k looks → IsMade p c k (with_looks old looks)
  one_made k old looks own are = record { own = own; fetched = are.fetched; needs = are.needs; known = are.known; pieces = are.pieces }

  all_set : (xs : List Piece) (k : ℕ) (old : Piece) (looks : Looks) → AreMadeBefore k xs → k < length xs → slice_get xs k ≡ Some old → AreLooks p c k looks → AreMadeBefore (k + 1) (set xs k (with_looks old looks))
  all_set xs k old looks before less at are = record {
    own = own_set xs k old looks before.own less at;
    made = λ n x below there. elim (set_cases xs k n (with_looks old looks) x less there) [
      | inl same ↦ subst (λ (m : ℕ). IsMade p c m x) (sym same.0) (subst (IsMade p c k) same.1 (one_made k old looks (before.own.each k old at) are))
      | inr other ↦ elim (cases_lt n k) [
        | inl low ↦ before.made n x low other.1
        | inr from ↦ absurd (other.0 (omega (arith, from, below)))
      ]
    ];
  }

  -- one more piece
  pub made_next : (xs ys : List Piece) (k : ℕ) (looks : Looks) → AreMadeBefore k xs → k < length xs → AreLooks p c k looks →
      ((old : Piece) → slice_get xs k ≡ Some old → ys ≡ set xs k (with_looks old looks)) → AreMadeBefore (k + 1) ys
  made_next xs ys k looks before less are put =
      let old = at_below xs k less in
      subst (AreMadeBefore (k + 1)) (sym (put old.0 old.1)) (all_set xs k old.0 looks before less old.1 are)

  pub made_all : (xs : List Piece) (k : ℕ) → AreMadeBefore k xs → k ≡ length (pieces p) → AreMade p c xs
  made_all xs k before end n x at =
      let within = slice_get_within xs n x at in
      let many = before.own.count in
      before.made n x (omega (arith, within, many, end)) at
