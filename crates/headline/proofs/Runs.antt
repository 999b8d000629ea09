-- The private runs of a right plan's pieces are right.
use Rattle.std.proofs.Common.{◌≡◌, ℕ, ◌<◌, Bool, true, false, List, [], ◌∷◌, length, map, Option, Some, None, refl, sym, ap, ◌∙◌, subst, inl, inr}
use Rattle.std.specs.Prelude.{ℤ, ◌&&◌, nat_lt, slice_get, filter, if◌then◌else◌}
use Rattle.std.specs.List.{AllByRecursion}
use Rattle.tree.specs.declared.value.Value.{Value}
use Rattle.tree.specs.Term.{Term}
use Rattle.tree.specs.Meaning.{typed}
use Rattle.meaning.specs.Image.Raster.{is_within, sample}
use Rattle.lin.specs.declared.span.Span1.{Span1}
use Rattle.meaning.specs.Algorithm.{Algorithm}
use Rattle.meaning.specs.Conditions.{IsAlgorithm}
use Rattle.meaning.specs.Names.{same_name, same_point}
use Rattle.meaning.specs.Value.{Calls, calls_of}
use Rattle.meaning.proofs.Calls.{input_called}
use Rattle.plan.specs.Claimed.{claim_of}
use Rattle.plan.specs.Lines.{body_line}
use Rattle.plan.specs.Plan.{Group, Plan}
use Rattle.plan.specs.Symbols.{Symbols, points}
use Rattle.plan.specs.Certificate.Certificate.{Claim, Certificate}
use Rattle.plan.specs.Certificate.Cells.{no_symbols, grid_symbols, grid_point, is_in_region, own_region, points_within, own_points, Cell, cell, Piece, pieces}
use Rattle.plan.specs.Semantics.Actions.{actions}
use Rattle.plan.specs.Semantics.Run.{Input, ByClaim, Unknown, claim_source, source_of, Around}
use Rattle.plan.specs.Semantics.Setting.{group_name, buffer_in, setting_of, around_of, piece_run}
use Rattle.soundness.specs.Claims.{In}
use Rattle.soundness.specs.Given.{claim_or_none, outline_of, given_of}
use Rattle.soundness.specs.Origins.{Given}
use Rattle.soundness.specs.Right.{Suits, AreRight}
use Rattle.soundness.specs.Stored.{AreFetchedRight, IsOfAlgorithm, KeepsValues}
use Rattle.soundness.proofs.Calls.{given_is_of_algorithm}
use Rattle.soundness.proofs.Learned.{point_refl, point_true}
use Rattle.soundness.proofs.Refines.{and_parts, name_refl, name_true}
use Rattle.soundness.proofs.Stored.{definitions_right}
use Rattle.soundness.proofs.Whole.{whole}
use Rattle.headline.specs.Fetched.{fetched_cells}
use Rattle.headline.specs.Numbers.{cell_number, has_point, is_cell, GroupsHaveEnds}
use Rattle.headline.specs.Work.{cell_function, cell_value, value_or_zero, target, group_own, own_cells, group_fetched, cells_fetched, type_named, looked_value, numbers, group_run, run_on, of_piece}
use Rattle.headline.specs.Sound.{IsOnInput, IsPublished, IsRightPiece, IsRightPlan}
use Rattle.headline.specs.Theorem.{PiecesRunRight}
use Rattle.headline.proofs.Gives.{own_same, values_by, GivesOwn, gives}
use Rattle.headline.proofs.Lists.{at_below}
use Rattle.headline.proofs.Places.{cell_stands, Stands, piece_from}
use Rattle.headline.proofs.Takes.{taken}
use Rattle.headline.proofs.Types.{call_is}

-- ---- lists

all_in : {A : Type 0} (P : A → Type 0) (xs : List A) → ((x : A) → In x xs → P x) → AllByRecursion P xs
all_in P [] h = tt
all_in P (x ∷ xs) h = (h x (inl refl), all_in P xs (λ y m. h y (inr m)))

passed : {A : Type 0} (test : A → Bool) (xs : List A) → AllByRecursion (λ x. test x ≡ true) (filter test xs)
passed test [] = tt
passed test (x ∷ xs) = of (test x) refl (passed test xs)
  where
    of : (v : Bool) → test x ≡ v → AllByRecursion (λ y. test y ≡ true) (filter test xs) → AllByRecursion (λ y. test y ≡ true) (if v then x ∷ filter test xs else filter test xs)
    of true e rest = (e, rest)
    of false e rest = rest

-- ---- what is around a piece

source_is : (input : List ℕ) (count : ℕ) (name : List ℕ) → source_of input count name ≡ Input → name ≡ input
source_is input count name e = of (same_name name input) refl e
  where
    by_claim : (v : Bool) (k : ℕ) → (if v then ByClaim k else Unknown) ≡ Input → ⊥
    by_claim true k h = cc
    by_claim false k h = cc

    no_claim : (o : Option ℕ) → claim_source count o ≡ Input → ⊥
    no_claim None h = cc
    no_claim (Some k) h = by_claim (nat_lt k count) k h

    of : (v : Bool) → same_name name input ≡ v → (if v then Input else claim_source count (claim_of name)) ≡ Input → name ≡ input
    of true h k = name_true name input h
    of false h k = absurd (no_claim (claim_of name) k)

buffer_same : (o : Option Claim) → buffer_in o ≡ (claim_or_none o).buffer
buffer_same None = refl
buffer_same (Some x) = refl

module _ (a : Algorithm) (p : Plan) (c : Certificate) (samples : List ℕ) (is : IsAlgorithm a) where
  suits : IsOnInput a p → (cell : Calls) (n : ℕ) (g : Group) → Suits (around_of p c samples cell) (given_of a samples (outline_of p c n g))
  suits on cell n g = record {
    sources = λ name. refl;
    buffers = λ k. buffer_same (slice_get c.claims k);
    samples = λ name q e h.
        (λ i. if is_within (on.extents i) q then Some (typed (on.ty i) (sample (on.extents i) samples q)) else None)
        ∙ ap (λ (v : Bool). if v then Some (typed a.input_ty (sample a.input_extents samples q)) else None) h
        ∙ ap Some (sym (input_called a is.names samples q) ∙ ap (λ x. calls_of a samples x q) (sym (source_is p.input.name (length c.claims) name e ∙ on.name)));
  }

  -- ---- the values of cells

  abbrev value_number : Cell → ℤ
  value_number x = (cell_value a p samples x).number

  abbrev AreCells : List Cell → Type 0
  AreCells xs = AllByRecursion (λ x. is_cell p x ≡ true) xs

  pub target_is : (x : Cell) → GroupsHaveEnds p → is_cell p x ≡ true → target a p samples (cell_number p x) ≡ value_number x
  target_is x ends h = ap (value_or_zero a p samples) (cell_stands p x ends h)

  targets : (xs : List Cell) → GroupsHaveEnds p → AreCells xs → map (target a p samples) (map (cell_number p) xs) ≡ map value_number xs
  targets [] ends h = refl
  targets (x ∷ xs) ends h =
      let head = target_is x ends h.0 in
      let rest = targets xs ends h.1 in
      λ i. head i ∷ rest i

  -- a cell that was looked at has its value
  looked_right : (xs : List Cell) (x : Cell) → In x xs → looked_value a p xs (map value_number xs) (cell_function p x) x.point ≡ cell_value a p samples x
  looked_right [] x m = absurd m
  looked_right (y ∷ ys) x m = of (same_name (cell_function p y) (cell_function p x) && same_point y.point x.point) refl m (looked_right ys x)
    where
      of : (v : Bool) → (same_name (cell_function p y) (cell_function p x) && same_point y.point x.point) ≡ v → In x (y ∷ ys) →
          (In x ys → looked_value a p ys (map value_number ys) (cell_function p x) x.point ≡ cell_value a p samples x) →
          (if v then typed (type_named a (cell_function p x)) (value_number y) else looked_value a p ys (map value_number ys) (cell_function p x) x.point) ≡ cell_value a p samples x
      of true h k rest =
          let parts = and_parts (same_name (cell_function p y) (cell_function p x)) (same_point y.point x.point) h in
          let name = name_true (cell_function p y) (cell_function p x) parts.0 in
          let point = point_true y.point x.point parts.1 in
          (λ i. typed (type_named a (cell_function p x)) (calls_of a samples (name i) (point i)).number) ∙ call_is a samples is (cell_function p x) x.point
      of false h (inl e) rest =
          let same : (same_name (cell_function p x) (cell_function p x) && same_point x.point x.point) ≡ true = rw (name_refl (cell_function p x)) (point_refl x.point) in
          let hit : (same_name (cell_function p y) (cell_function p x) && same_point y.point x.point) ≡ true = ap (λ (z : Cell). same_name (cell_function p z) (cell_function p x) && same_point z.point x.point) (sym e) ∙ same in
          absurd (cc (h, hit))
      of false h (inr k) rest = rest k

  -- ---- the run of a piece

  module _ (put_in : Term → Term) (on : IsOnInput a p) (values : KeepsValues a samples put_in) (n : ℕ) (g : Group) (at : List ℕ) (published : IsPublished p c n g) (right : IsRightPiece a p c samples put_in n g at) where
    abbrev symbols : Symbols
    symbols = grid_symbols at

    abbrev given : Given
    given = given_of a samples (outline_of p c n g)

    abbrev fetched : List Cell
    fetched = fetched_cells g.body symbols

    abbrev around : Around
    around = around_of p c samples (looked_value a p fetched (map value_number fetched))

    of_algorithm : IsOfAlgorithm a samples given
    of_algorithm = given_is_of_algorithm a samples (outline_of p c n g) is (λ name e. source_is p.input.name (length c.claims) name e ∙ on.name)

    fetched_right : AreFetchedRight around given (actions (setting_of p c n g) g.body symbols)
    fetched_right =
        taken around given (setting_of p c n g) (λ x. In x fetched)
        (λ x m. looked_right fetched x m ∙ sym (of_algorithm.whole (cell_function p x) x.point))
        g.body symbols (all_in (λ x. In x fetched) fetched (λ x m. m))

    are_right : AreRight around given (actions (setting_of p c n g) g.body symbols)
    are_right = definitions_right a samples put_in around given (actions (setting_of p c n g) g.body symbols) of_algorithm values fetched_right right.stores

    abbrev Function' : ℕ → Type 0
    Function' k = (claim_or_none (slice_get c.claims k)).function ≡ g.function

    given_own : GivesOwn given (setting_of p c n g) Function' symbols (actions (setting_of p c n g) g.body symbols)
    given_own = gives given (setting_of p c n g) Function' g.body symbols published.last (λ i h s z b. own_same s i z b g c n (published.apart i h))

    own_values : values_by given (setting_of p c n g) given_own.by (own_points g c n symbols) ≡ map (λ q. calls_of a samples g.function q) (own_points g c n symbols)
    own_values =
        ap (λ (f : List ℤ → Value). map f (own_points g c n symbols))
        (λ i q. (of_algorithm.whole (claim_or_none (slice_get c.claims given_own.by)).function q ∙ ap (λ x. calls_of a samples x q) given_own.has) i)

    pub run_is : piece_run p c samples (looked_value a p fetched (map value_number fetched)) n g at ≡ Some (map (λ q. calls_of a samples g.function q) (own_points g c n symbols))
    run_is =
        whole around given g.body (body_line p n) symbols (suits on (looked_value a p fetched (map value_number fetched)) n g) are_right right.sound
        ∙ ap Some (given_own.is ∙ own_values)

  -- ---- own cells

  own_within : (n : ℕ) (g : Group) (s : Symbols) (o : Option (List Span1)) → AllByRecursion (λ q. is_in_region no_symbols g.region q ≡ true) (points_within g o s)
  own_within n g s None = tt
  own_within n g s (Some xs) = passed (is_in_region no_symbols g.region) (points s xs)

  cells_of : (n : ℕ) (g : Group) → slice_get p.groups n ≡ Some g → (qs : List (List ℤ)) → AllByRecursion (λ q. is_in_region no_symbols g.region q ≡ true) qs → AreCells (map (cell n) qs)
  cells_of n g e [] h = tt
  cells_of n g e (q ∷ qs) h = (ap (λ (o : Option Group). has_point o q) e ∙ h.0, cells_of n g e qs h.1)

  numbers_of_own : (n : ℕ) (g : Group) → slice_get p.groups n ≡ Some g → (qs : List (List ℤ)) → map (λ (v : Value). v.number) (map (λ q. calls_of a samples g.function q) qs) ≡ map value_number (map (cell n) qs)
  numbers_of_own n g e [] = refl
  numbers_of_own n g e (q ∷ qs) =
      let rest = numbers_of_own n g e qs in
      λ i. (calls_of a samples (group_name (sym e i)) q).number ∷ rest i

  -- ---- the work

  abbrev RunsAt : Piece → Option Group → Type 0
  RunsAt x o = group_run a p c samples (looked_value a p (group_fetched o x) (map (target a p samples) (map (cell_number p) (group_fetched o x)))) x o ≡ Some (map (target a p samples) (map (cell_number p) (group_own o c x)))

  piece_right : (put_in : Term → Term) (plan : IsRightPlan a p c samples put_in) (j : ℕ) (x : Piece) → Stands p j x → RunsAt x (slice_get p.groups x.group)
  piece_right put_in plan j x s =
      let ends : GroupsHaveEnds p = λ n g e. (plan.groups n g e).ends in
      let g = s.g in
      let at : grid_point g.grid s.k ≡ x.at = ap (λ (y : Piece). y.at) (sym s.is) in
      let right = subst (IsRightPiece a p c samples put_in x.group g) at (plan.pieces x.group g s.k s.group s.inside) in
      let fetched = fetched_cells g.body (grid_symbols x.at) in
      let own = own_points g c x.group (grid_symbols x.at) in
      let own_cells = cells_of x.group g s.group own (own_within x.group g (grid_symbols x.at) (own_region c.own x.group)) in
      subst (RunsAt x) (sym s.group)
      (ap (λ (vs : List ℤ). numbers (piece_run p c samples (looked_value a p fetched vs) x.group g x.at)) (targets fetched ends right.fetches)
      ∙ ap numbers (run_is put_in plan.input plan.values x.group g x.at (plan.groups x.group g s.group) right)
      ∙ ap Some (numbers_of_own x.group g s.group own ∙ sym (targets (map (cell x.group) own) ends own_cells)))

  abbrev RunsBy : Option Piece → Type 0
  RunsBy o =
      of_piece o None (λ x. run_on a p c samples x (map (target a p samples) (of_piece o [] (λ y. map (cell_number p) (cells_fetched p y)))))
      ≡ Some (map (target a p samples) (of_piece o [] (λ y. map (cell_number p) (own_cells p c y))))

  runs_right : (put_in : Term → Term) (plan : IsRightPlan a p c samples put_in) (j : ℕ) → j < length (pieces p) → RunsBy (slice_get (pieces p) j)
  runs_right put_in plan j h =
      let x = at_below (pieces p) j h in
      subst RunsBy (sym x.1) (piece_right put_in plan j x.0 (piece_from p j x.0 x.1))

pub pieces_right : PiecesRunRight
pieces_right a p c samples put_in is plan j h = runs_right a p c samples is put_in plan j h
