-- Pieces of groups that need no pieces.
use Rattle.std.proofs.Common.{◌≡◌, ℕ, suc, ◌<◌, List, [], ◌∷◌, length, map, Bool, true, false, cond, arith, ap, refl, sym, ◌∙◌, subst, Option, Some, None}
use Rattle.std.specs.Prelude.{◌==◌, if◌then◌else◌, All, Contains, flat_map, slice_get, MatchOption}
use Rattle.std.specs.List.{AllByRecursion, list_any, range_with_len}
use Rattle.std.proofs.lemmas.Bool.{false≢true}
use Rattle.std.proofs.lemmas.Bool.Decides.{nat_tests}
use Rattle.std.proofs.lemmas.List.{length-map}
use Rattle.std.proofs.lemmas.List.Elements.{All-from_recursion}
use Rattle.plan.specs.Plan.{Plan}
use Rattle.plan.specs.Symbols.{points}
use Rattle.plan.specs.declared.certificate.cert.Need.{Need}
use Rattle.plan.specs.Certificate.Certificate.{Certificate}
use Rattle.plan.specs.Certificate.Cells.{Piece, Cell, cell, pieces, grid_symbols}
use Rattle.headline.specs.Work.{of_piece, needs_this, needed_pieces}
use Rattle.shares.specs.Has.{NeedsPieces, IsServed}
use Rattle.shares.specs.Layout.{needs_list, fetched_list, FetchesCells}
use Rattle.shares.specs.Made.{IsPieceOf, need_place, next_place}
use Rattle.shares.specs.declared.stop.Stop.{Stop}
use Rattle.shares.specs.declared.stop.Stop.TheVariants.{Unserved, Large, Memory}
use Rattle.shares.specs.Needed.{NeedIsInside, NeedsAreInside}
use Rattle.shares.specs.Stops.{FetchStops}
use Rattle.shares.proofs.Prefixes.{none_kept}

next_none : (o : Option ℕ) → next_place o ≡ None → o ≡ None
next_none None h = refl
next_none (Some i) h = absurd (cc h)

abbrev IsOther : ℕ → Need → Type 0
IsOther g n = (n.group == g) ≡ false

no_line : (ns : List Need) (g : ℕ) → need_place ns g ≡ None → AllByRecursion (IsOther g) ns
no_line [] g e = tt
no_line (n ∷ ns) g e = of (n.group == g) refl (no_line ns g) e
  where
    of : (b : Bool) → (n.group == g) ≡ b → (need_place ns g ≡ None → AllByRecursion (IsOther g) ns) → (if b then Some 0 else next_place (need_place ns g)) ≡ None → IsOther g n × AllByRecursion (IsOther g) ns
    of true t rest h = absurd (cc h)
    of false t rest h = (t, rest (next_none (need_place ns g) h))

module _ (j : Piece) where
  none_named : (f : Cell → Bool) (ns : List Need) → AllByRecursion (IsOther j.group) ns → list_any f (flat_map (λ n. if n.group == j.group then map (cell n.needed) (points (grid_symbols j.at) n.region) else []) ns) ≡ false
  none_named f [] h = refl
  none_named f (n ∷ ns) h = rw h.0 (none_named f ns h.1)

  none_needed : (c : Certificate) (o : Option Piece) → AllByRecursion (IsOther j.group) c.needs → needs_this c j o ≡ false
  none_needed c None h = refl
  none_needed c (Some x) h = none_named _ c.needs h

  inside_other : (p : Plan) (ns : List Need) → AllByRecursion (IsOther j.group) ns → AllByRecursion (NeedIsInside p j) ns
  inside_other p [] h = tt
  inside_other p (n ∷ ns) h = ((λ same. absurd (false≢true (sym h.0 ∙ (let t : (n.group == j.group) ≡ true = grind (arith, nat_tests) in t)))), inside_other p ns h.1)

module _ (p : Plan) (c : Certificate) (n : ℕ) (alone : need_place c.needs n ≡ None) where
  list_none : (o : Option Piece) → MatchOption o ⊥ (λ j. j.group ≡ n) → of_piece o [] (needed_pieces p c) ≡ []
  list_none None h = absurd h
  list_none (Some j) h =
      let others = no_line c.needs j.group (ap (need_place c.needs) h ∙ alone) in
      none_kept (λ i. needs_this c j (slice_get (pieces p) i)) (λ i. none_needed j c (slice_get (pieces p) i) others) (range_with_len 0 (length (pieces p)))

  pieces_none : (o : Option Piece) → MatchOption o ⊥ (λ j. j.group ≡ n) → MatchOption o (Unit {0}) (λ j. NeedsAreInside p j c.needs)
  pieces_none None h = absurd h
  pieces_none (Some j) h = All-from_recursion (NeedIsInside p j) c.needs (inside_other j p c.needs (no_line c.needs j.group (ap (need_place c.needs) h ∙ alone)))

  nothing : (i : ℕ) → Contains [] i → ⊥
  nothing i m = let less : m.0 < 0 = m.1 in omega (arith, less)

  module _ (i : ℕ) (is : IsPieceOf p n i) where
    needs_none : needs_list p c i ≡ []
    needs_none = list_none (slice_get (pieces p) i) is

    never : (k : ℕ) → Contains (needs_list p c i) k → ⊥
    never k m = nothing k (subst (λ (xs : List ℕ). Contains xs k) needs_none m)

    -- a piece that fetches nothing is served
    pub served_alone : FetchesCells p i → length (fetched_list p i) ≡ 0 → IsServed p c i
    served_alone cells none = record {
      cells = cells;
      pieces = pieces_none (slice_get (pieces p) i) is;
      earlier = λ k m. absurd (never k m);
      owned = λ x m. absurd (let less = m.1 in omega (arith, less, none));
    }

    first_of : (xs : List ℕ) → 0 < length xs → (x : ℕ) × Contains xs x
    first_of [] less = absurd (omega (arith, less))
    first_of (x ∷ xs) less = (x, (0, less, refl))

    -- one that fetches is not
    pub unserved_alone : 0 < length (fetched_list p i) → ¬ IsServed p c i
    unserved_alone some served =
        let x = first_of (fetched_list p i) some in
        let found = served.owned x.0 x.1 in
        never found.0 found.1

    -- nor is one whose fetched cells are not told, but for want of memory
    pub stopped_alone : (stop : Stop) → FetchStops p i 0 stop → ¬ (stop ≡ Memory) → ¬ IsServed p c i
    stopped_alone Unserved h other = λ served. h served.cells
    stopped_alone Large h other = unserved_alone h
    stopped_alone Memory h other = λ served. other refl
