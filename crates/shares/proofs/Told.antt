-- The lists that were made are those of the plan's work.
use Rattle.std.proofs.Common.{◌≡◌, ℕ, ◌<◌, List, [], length, map, arith, ap, refl, sym, ◌∙◌, subst, Option, Some, None, inl, inr}
use Rattle.std.specs.Prelude.{◌+◌, slice_get, Contains, MatchOption}
use Rattle.std.proofs.lemmas.Bool.{cases_lt}
use Rattle.std.proofs.lemmas.Option.{slice_get_past}
use Rattle.meaning.specs.Algorithm.{Algorithm}
use Rattle.plan.specs.Plan.{Plan}
use Rattle.plan.specs.Certificate.Certificate.{Certificate}
use Rattle.plan.specs.Certificate.Cells.{pieces, cells}
use Rattle.plan.specs.Certificate.Cells.{Piece as PlanPiece}
use Rattle.orders.specs.declared.lists.Piece.{Piece}
use Rattle.orders.specs.Faults.{IsFirstUnserved}
use Rattle.orders.specs.Work.{HasSoundLists, NeedsIsEarlier, FetchedIsNeeded, NeedsServe, OwnIsParted, OwnIsWhole}
use Rattle.orders.specs.Lists.{AreSound, own_of, fetched_of, needs_of, own_lists, fetched_lists, needs_lists}
use Rattle.headline.proofs.Lists.{at_below}
use Rattle.headline.specs.Numbers.{cell_number}
use Rattle.headline.specs.Theorem.{HasSoundCells}
use Rattle.headline.specs.Work.{of_piece, own_cells, cells_fetched, needed_pieces, work_of}
use Rattle.shares.specs.Layout.{own_list, fetched_list, needs_list, FetchesCells, PieceFetchesCells, OwnIsInside, PieceIsInside}
use Rattle.shares.specs.Needed.{NeedsAreInside}
use Rattle.shares.specs.Has.{NeedsPieces, IsServed}
use Rattle.shares.specs.Made.{AreMade, AreListsOf}

none_some : {A : Type 0} {x : A} → ◌≡◌ {A = Option A} None (Some x) → ⊥
none_some e = cc e

pub inside_all : (p : Plan) (c : Certificate) → ((n : ℕ) → n < length (pieces p) → OwnIsInside p c n) → (n : ℕ) → OwnIsInside p c n
inside_all p c h n = elim (cases_lt n (length (pieces p))) [
  | inl less ↦ h n less
  | inr past ↦ subst (PieceIsInside p c) (sym (slice_get_past (pieces p) n past)) tt
]

module _ (p : Plan) (c : Certificate) (xs : List Piece) (count : length xs ≡ length (pieces p)) (made : AreMade p c xs) where
  past : (n : ℕ) → slice_get xs n ≡ None → slice_get (pieces p) n ≡ None
  past n e = elim (cases_lt n (length xs)) [
    | inl less ↦ (let x = at_below xs n less in absurd (none_some (sym e ∙ x.1)))
    | inr from ↦ slice_get_past (pieces p) n (omega (arith, from, count))
  ]

  own_at : (n : ℕ) (o : Option Piece) → slice_get xs n ≡ o → own_of o ≡ own_list p c n
  own_at n None e = sym (ap (λ (k : Option PlanPiece). of_piece k [] (λ j. map (cell_number p) (own_cells p c j))) (past n e))
  own_at n (Some x) e = (made n x e).own

  fetched_at : (n : ℕ) (o : Option Piece) → slice_get xs n ≡ o → fetched_of o ≡ fetched_list p n
  fetched_at n None e = sym (ap (λ (k : Option PlanPiece). of_piece k [] (λ j. map (cell_number p) (cells_fetched p j))) (past n e))
  fetched_at n (Some x) e = (made n x e).fetched

  needs_at : (n : ℕ) (o : Option Piece) → slice_get xs n ≡ o → needs_of o ≡ needs_list p c n
  needs_at n None e = sym (ap (λ (k : Option PlanPiece). of_piece k [] (needed_pieces p c)) (past n e))
  needs_at n (Some x) e = (made n x e).needs

  pub own_same : (n : ℕ) → own_lists xs n ≡ own_list p c n
  own_same n = own_at n (slice_get xs n) refl

  pub lists_are : (a : Algorithm) (samples : List ℕ) → AreListsOf (work_of a p c samples) xs
  lists_are a samples = record {
    count = count;
    own = own_same;
    fetched = λ n. fetched_at n (slice_get xs n) refl;
    needs = λ n. needs_at n (slice_get xs n) refl;
  }

  known_at : (n : ℕ) (o : Option Piece) → slice_get xs n ≡ o → FetchesCells p n
  known_at n None e = subst (PieceFetchesCells p) (sym (past n e)) tt
  known_at n (Some x) e = (made n x e).known

  pub known_all : (n : ℕ) → FetchesCells p n
  known_all n = known_at n (slice_get xs n) refl

  -- what is said of the plan's own cells by a number of pieces, one of cells and the lists is said of these
  of_lists : (P : ℕ → ℕ → (ℕ → List ℕ) → Type 0) (many : ℕ) → many ≡ length (cells p) → P (length (pieces p)) (length (cells p)) (own_list p c) → P (length xs) many (own_lists xs)
  of_lists P many e h =
      let same : own_list p c ≡ own_lists xs = λ i n. sym (own_same n) i in
      subst (λ (n : ℕ). P n many (own_lists xs)) (sym count) (subst (λ (n : ℕ). P (length (pieces p)) n (own_lists xs)) (sym e) (subst (P (length (pieces p)) (length (cells p))) same h))

  pub parted_lists : (many : ℕ) → many ≡ length (cells p) → OwnIsParted (length (pieces p)) (length (cells p)) (own_list p c) → OwnIsParted (length xs) many (own_lists xs)
  parted_lists many e parted = of_lists OwnIsParted many e parted

  -- lists that part the cells and serve are sound
  pub sound_lists : (many : ℕ) → many ≡ length (cells p) → OwnIsParted (length (pieces p)) (length (cells p)) (own_list p c) → OwnIsWhole (length (pieces p)) (length (cells p)) (own_list p c) →
      NeedsServe (length xs) (own_lists xs) (fetched_lists xs) (needs_lists xs) → AreSound many xs
  sound_lists many e parted whole serves =
      let here = parted_lists many e parted in
      record { in_table = here.0; apart = here.1; whole = of_lists OwnIsWhole many e whole; earlier = serves.0; needed = serves.1 }

  pub fetched_same : (n : ℕ) → fetched_lists xs n ≡ fetched_list p n
  fetched_same n = fetched_at n (slice_get xs n) refl

  pub needs_same : (n : ℕ) → needs_lists xs n ≡ needs_list p c n
  needs_same n = needs_at n (slice_get xs n) refl

  pieces_at : (n : ℕ) (o : Option Piece) → slice_get xs n ≡ o → NeedsPieces p c n
  pieces_at n None e = subst (λ (k : Option PlanPiece). MatchOption k (Unit {0}) (λ j. NeedsAreInside p j c.needs)) (sym (past n e)) tt
  pieces_at n (Some x) e = (made n x e).pieces

  pub pieces_all : (n : ℕ) → NeedsPieces p c n
  pieces_all n = pieces_at n (slice_get xs n) refl

  -- sound lists are those of the plan's work
  pub cells_sound : (many : ℕ) → many ≡ length (cells p) → AreSound many xs → (a : Algorithm) (samples : List ℕ) → HasSoundCells (work_of a p c samples)
  cells_sound many e sound a samples =
      let own : own_lists xs ≡ own_list p c = λ i n. own_same n i in
      let fetched : fetched_lists xs ≡ fetched_list p = λ i n. fetched_same n i in
      let needs : needs_lists xs ≡ needs_list p c = λ i n. needs_same n i in
      subst (λ (n : ℕ). HasSoundLists n (length (cells p)) (own_list p c) (fetched_list p) (needs_list p c)) count
      (subst (λ (n : ℕ). HasSoundLists (length xs) n (own_list p c) (fetched_list p) (needs_list p c)) e
      (subst (λ (of : ℕ → List ℕ). HasSoundLists (length xs) many of (fetched_list p) (needs_list p c)) own
      (subst (λ (of : ℕ → List ℕ). HasSoundLists (length xs) many (own_lists xs) of (needs_list p c)) fetched
      (subst (λ (of : ℕ → List ℕ). HasSoundLists (length xs) many (own_lists xs) (fetched_lists xs) of) needs sound))))

  -- the first piece that is not served by its lists is not served
  pub not_served : (piece : ℕ) → IsFirstUnserved (length xs) (own_lists xs) (fetched_lists xs) (needs_lists xs) (Some piece) → ¬ IsServed p c piece
  not_served piece first served =
      let before = first.1 in
      let earlier : NeedsIsEarlier (piece + 1) (needs_lists xs) = λ q k less m. elim (cases_lt q piece) [
        | inl lower ↦ before.0 q k lower m
        | inr from ↦
            let same : q ≡ piece = omega (arith, less, from) in
            let here = subst (λ (ns : List ℕ). Contains ns k) (ap (needs_lists xs) same ∙ needs_same piece) m in
            let below = served.earlier k here in
            omega (arith, below, same)
      ] in
      let needed : FetchedIsNeeded (piece + 1) (own_lists xs) (fetched_lists xs) (needs_lists xs) = λ q x less m. elim (cases_lt q piece) [
        | inl lower ↦ before.1 q x lower m
        | inr from ↦
            let same : q ≡ piece = omega (arith, less, from) in
            let here = subst (λ (ns : List ℕ). Contains ns x) (ap (fetched_lists xs) same ∙ fetched_same piece) m in
            let found = served.owned x here in (
              found.0,
              subst (λ (ns : List ℕ). Contains ns found.0) (sym (ap (needs_lists xs) same ∙ needs_same piece)) found.1,
              subst (λ (ns : List ℕ). Contains ns x) (sym (own_same found.0)) found.2,
            )
      ] in
      first.2 (earlier, needed)
