-- What a piece counts is how often its actions do, and the sum over the pieces.
use Rattle.std.proofs.Common.{◌≡◌, ℕ, zero, suc, ◌+◌, ◌^◌, ◌-◌, ◌<◌, ◌≤◌, Bool, true, false, List, [], ◌∷◌, length, take, map, get_or, refl, sym, ap, ◌∙◌, subst, arith, ℤ, count_by}
use Rattle.std.proofs.Common.{flat_map, sum_by, Option, Some, None}
use Rattle.std.specs.List.{list_any}
use Rattle.std.specs.Prelude.{◌&&◌, if◌then◌else◌, int_le, slice_get, IfSome}
use Rattle.std.proofs.Props.{props}
use Rattle.std.proofs.Math.Logic.{∥∥₁_elim}
use Rattle.std.proofs.lemmas.List.Sums.{sum_by_more, sum_by-take-le}
use Rattle.meaning.specs.Algorithm.{Algorithm}
use Rattle.meaning.specs.Names.{same_name}
use Rattle.tree.specs.Term.{Term}
use Rattle.plan.specs.declared.plan.Group.{Group as CodeGroup}
use Rattle.plan.specs.Plan.{Statement, Seq, For, Let, First, Guard, Alloc, Fetch, Store, Publish, Statements, Empty, Then, Group, Plan}
use Rattle.plan.specs.declared.plan.Plan.{Plan as CodePlan}
use Rattle.plan.specs.View.{group_of, plan_of}
use Rattle.plan.specs.Symbols.{Symbols, bind, largest}
use Rattle.plan.specs.Certificate.Certificate.{Certificate}
use Rattle.plan.specs.Certificate.Cells.{Piece, grid_point, grid_symbols, piece, pieces}
use Rattle.plan.specs.Semantics.Actions.{Target, actions, action_for, after}
use Rattle.plan.specs.Semantics.Setting.{allocated, function_in, group_name, setting_of}
use Rattle.headline.specs.Numbers.{PiecesAreNumbered}
use Rattle.checked_plan.specs.Ready.Ready.{Ready}
use Rattle.checked_plan.specs.declared.checked.Checked.{Checked}
use Rattle.checked_plan.specs.View.{certificate_checked, plan_checked}
use Rattle.interpreter.specs.Narrow.{StatementIsNarrow, BlockIsNarrow, PieceIsNarrow, OwnIsNarrow}
use Rattle.piece.specs.Laws.{PiecesAreNarrow}
use Rattle.piece.specs.Places.Places.{IsPlaceOf}
use Rattle.report.specs.declared.subject.Deed.{Deed}
use Rattle.report.specs.declared.subject.Deed.TheVariants.{Store as StoreDeed, Fetch as FetchDeed}
use Rattle.report.specs.Actions.{group_actions, is_fetch_of, is_store_of, piece_actions}
use Rattle.report.specs.Costs.{is_stored, up_to}
use Rattle.report.specs.Memory.{has_function}
use Rattle.report.specs.Subject.{is_fetch, is_store}
use Rattle.report.specs.declared.known.Binding.{Binding}
use Rattle.report.specs.Counting.{Fits, BlockFits, IsTally}
use Rattle.report.specs.Deeds.{deeds, deeds_in, is_deed_of}
use Rattle.report.specs.Grid.{counts_in, grid_bindings, IsPieceTally}
use Rattle.report.specs.Tally.{tally, Counted}
use Rattle.report.proofs.Acts.{Tests, counted, count-flat_map}
use Rattle.report.proofs.Grids.{grid_allowed}

-- ---- the tests

stores_by : (t : Bool) (b : ℕ) (g : List ℕ) (k : ℕ) (names : List (List ℕ)) (at : List Target) (over : List ℤ) (e : Term) (f : List ℕ) →
    is_store_of f (action_for t b g k names at over e) ≡ same_name g f
stores_by true b g k names at over e f = refl
stores_by false b g k names at over e f = refl

fetches_none : (t : Bool) (b : ℕ) (g : List ℕ) (k : ℕ) (names : List (List ℕ)) (at : List Target) (over : List ℤ) (e : Term) (f : List ℕ) → is_fetch_of f (action_for t b g k names at over e) ≡ false
fetches_none true b g k names at over e f = refl
fetches_none false b g k names at over e f = refl

tests : (p : Plan) (c : Certificate) (n : ℕ) (g : Group) (d : Deed) (f : List ℕ) (m : ℕ) → Tests (setting_of p c n g) (is_deed_of d f) (counts_in p g d f m)
tests p c n g StoreDeed f m = record {
  allots = λ b rooms. refl;
  takes = λ b h q. refl;
  stores = λ b k at e s. stores_by _ b _ k _ _ _ e f;
  gives = λ k q. refl;
}
tests p c n g FetchDeed f m = record {
  allots = λ b rooms. refl;
  takes = λ b h q. refl;
  stores = λ b k at e s. fetches_none _ b _ k _ _ _ e f;
  gives = λ k q. refl;
}

-- ---- what pieces own is not asked

module _ (Own : Symbols → Type 0) where
  mutual
    pub fits : (a : Statement) (s : Symbols) → StatementIsNarrow Own a s → Fits a s
    fits (Seq all) s h = block_fits all s h
    fits (For i x kind body) s h = (h.0, λ z among. fits body (bind s i z (int_le z (largest s x.lower))) (h.1 z among))
    fits (Let i pick forms) s h = h
    fits (First i a b) s h = (λ e. fits a s (h.0 e), λ e. fits b s (h.1 e))
    fits (Guard low high body) s h = (h.0, h.1, λ e. fits body s (h.2 e))
    fits (Alloc b f places) s h = h
    fits (Fetch b g region) s h = h
    fits (Store b k at e) s h = h
    fits (Publish c) s h = tt

    pub block_fits : (all : Statements) (s : Symbols) → BlockIsNarrow Own all s → BlockFits all s
    block_fits Empty s h = tt
    block_fits (Then a rest) s h = (fits a s h.0, block_fits rest (after a s) h.1)

-- ---- a piece

pub piece_counted : (p : Plan) (c : Certificate) (d : Deed) (f : List ℕ) (m j n k : ℕ) (place : IsPlaceOf p.groups j n k) (total : ℕ) → PiecesAreNumbered →
    PieceIsNarrow c n place.g (grid_point place.g.grid k)
    → IsPieceTally (counts_in p place.g d f m) place.g k total → up_to m total ≡ up_to m (deeds_in p c d f (slice_get (pieces p) j))
piece_counted p c d f m j n k place total law narrow one =
    let g = place.g in
    let s = grid_symbols (grid_point g.grid k) in
    let test = is_deed_of d f in
    let here : slice_get (pieces p) j ≡ Some (piece g n k) = ap (λ (i : ℕ). slice_get (pieces p) i) place.number ∙ law.stands p n g k place.at place.inside in
    let same : count_by test (actions (setting_of p c n g) g.body s) ≡ tally (counts_in p g d f m) g.body s = counted (setting_of p c n g) test (counts_in p g d f m) (tests p c n g d f m) g.body s in
    one.is (fits (OwnIsNarrow c n g) g.body s narrow)
    ∙ ap (up_to m) (sym same)
    ∙ ap (λ (o : Option Group). up_to m (count_by test (group_actions p c (piece g n k) o))) (sym place.at)
    ∙ ap (λ (o : Option Piece). up_to m (deeds_in p c d f o)) (sym here)

-- the group of a number
pub group_there : (gs : List CodeGroup) (n : ℕ) (g : Group) (x : CodeGroup) → slice_get (map group_of gs) n ≡ Some g → x ≡ get_or gs n x → group_of x ≡ g
group_there [] n g x h e = absurd (cc)
group_there (y ∷ ys) zero g x h e = ap group_of e ∙ (let f : group_of y ≡ g = cc in f)
group_there (y ∷ ys) (suc n) g x h e = group_there ys n g x h e

pub group_inside : (gs : List CodeGroup) (n : ℕ) (g : Group) → slice_get (map group_of gs) n ≡ Some g → n < length gs
group_inside [] n g h = absurd (cc)
group_inside (y ∷ ys) zero g h = omega arith
group_inside (y ∷ ys) (suc n) g h = let l : n < length ys = group_inside ys n g h in omega arith

-- ---- all pieces

at_get : (xs : List Piece) (j : ℕ) (d : Piece) → j < length xs → slice_get xs j ≡ Some (get_or xs j d)
at_get [] j d h = absurd (omega arith)
at_get (x ∷ xs) zero d h = refl
at_get (x ∷ xs) (suc j) d h = at_get xs j d (omega arith)

nowhere : Piece
nowhere = record { group = 0; at = [] }

abbrev pub deeds_before : Plan → Certificate → Deed → List ℕ → ℕ → ℕ
deeds_before p c d f j = sum_by (λ x. deeds_in p c d f (Some x)) (take j (pieces p))

pub before_more : (p : Plan) (c : Certificate) (d : Deed) (f : List ℕ) (j : ℕ) → j < length (pieces p) →
    deeds_before p c d f (j + 1) ≡ deeds_before p c d f j + deeds_in p c d f (slice_get (pieces p) j)
before_more p c d f j h =
    sum_by_more (λ x. deeds_in p c d f (Some x)) (pieces p) j nowhere h
    ∙ ap (λ (o : Option Piece). deeds_before p c d f j + deeds_in p c d f o) (sym (at_get (pieces p) j nowhere h))

take_whole : (xs : List Piece) (j : ℕ) → j ≡ length xs → take j xs ≡ xs
take_whole xs j e = ap (λ (n : ℕ). take n xs) e ∙ whole xs
  where
    whole : (xs : List Piece) → take (length xs) xs ≡ xs
    whole [] = refl
    whole (x ∷ xs) = ap (λ (l : List Piece). x ∷ l) (whole xs)

pub before_all : (p : Plan) (c : Certificate) (d : Deed) (f : List ℕ) (j : ℕ) → j ≡ length (pieces p) → deeds_before p c d f j ≡ deeds p c d f
before_all p c d f j e = ap (sum_by (λ x. deeds_in p c d f (Some x))) (take_whole (pieces p) j e) ∙ sym (count-flat_map (is_deed_of d f) (piece_actions p c) (pieces p))

pub before_at_most : (p : Plan) (c : Certificate) (d : Deed) (f : List ℕ) (j : ℕ) → deeds_before p c d f j ≤ deeds p c d f
before_at_most p c d f j =
    subst (λ (n : ℕ). deeds_before p c d f j ≤ n) (sym (count-flat_map (is_deed_of d f) (piece_actions p c) (pieces p))) (sum_by-take-le (λ x. deeds_in p c d f (Some x)) (pieces p) j)

-- the numbers of pieces are 32-bit numbers
pub few : (a : Algorithm) (p : Plan) (c : Certificate) → ∥ Ready a p c ∥₁ → length (pieces p) < 2 ^ 32
few a p c ready = ∥∥₁_elim ready (search props) (λ r. let most : length (pieces p) ≤ 2 ^ 20 = r.few_pieces in omega arith)

-- ---- what the code finds

pub some_is : (P : ℕ → Type 0) (o : Option ℕ) (n : ℕ) → o ≡ Some n → IfSome o P → P n
some_is P None n e h = absurd (cc)
some_is P (Some m) n e h = let f : m ≡ n = cc in subst P f h

pub piece_tally : (x : Counted) (known here : List Binding) (grid : List ℕ) (g : Group) (rank n : ℕ) → grid ≡ g.grid → known ≡ grid_bindings 0 (grid_point grid rank) → here ≡ known →
    IsTally x here g.body n → IsPieceTally x g rank n
piece_tally x known here grid g rank n eg ek eh t = record {
  is = λ fits.
      t.is (grid_symbols (grid_point g.grid rank)) (grid_allowed here (grid_point g.grid rank) (eh ∙ ek ∙ ap (λ (l : List ℕ). grid_bindings 0 (grid_point l rank)) eg)) fits;
}

-- what counts in the lines of a group among these
abbrev pub counts_by : List CodeGroup → Group → Deed → List ℕ → ℕ → Counted
counts_by gs g d f m = record {
  buffer = λ b. is_store d && same_name (function_in (allocated g.body b)) f;
  group = λ h. is_fetch d && same_name (group_name (slice_get (map group_of gs) h)) f;
  enough = m;
}

pub piece_here : (x : Checked) (plan : CodePlan) (groups : List CodeGroup) (group : CodeGroup) (d : Deed) (f : List ℕ) (m j n k : ℕ) → plan_of plan ≡ plan_checked x → groups ≡ plan.groups.items →
    IsPlaceOf (plan_of plan).groups j n k
    → group ≡ get_or plan.groups.items n group → PiecesAreNumbered → PiecesAreNarrow → (total : ℕ) → IsPieceTally (counts_by groups (group_of group) d f m) (group_of group) k total
    → up_to m total ≡ up_to m (deeds_in (plan_checked x) (certificate_checked x) d f (slice_get (pieces (plan_checked x)) j))
piece_here x plan groups group d f m j n k ep eg place here law narrow total h =
    let there : IsPlaceOf (plan_checked x).groups j n k = subst (λ (q : Plan). IsPlaceOf q.groups j n k) ep place in
    let at : slice_get (map group_of plan.groups.items) n ≡ Some there.g = ap (λ (q : Plan). slice_get q.groups n) ep ∙ there.at in
    let same : group_of group ≡ there.g = group_there plan.groups.items n there.g group at here in
    let a : IsPieceTally (counts_by plan.groups.items (group_of group) d f m) (group_of group) k total =
    subst (λ (gs : List CodeGroup). IsPieceTally (counts_by gs (group_of group) d f m) (group_of group) k total) eg h in
    let b : IsPieceTally (counts_in (plan_checked x) (group_of group) d f m) (group_of group) k total =
    subst (λ (q : Plan). IsPieceTally (counts_in q (group_of group) d f m) (group_of group) k total) ep a in
    let e : IsPieceTally (counts_in (plan_checked x) there.g d f m) there.g k total = subst (λ (g : Group). IsPieceTally (counts_in (plan_checked x) g d f m) g k total) same b in
    piece_counted (plan_checked x) (certificate_checked x) d f m j n k there total law (narrow x j n k there) e

pub stored_is : (p : Plan) (plan : CodePlan) (groups : List CodeGroup) (f name : List ℕ) (r : Bool) → plan_of plan ≡ p → groups ≡ plan.groups.items → f ≡ name →
    r ≡ list_any (has_function f) (map group_of groups) → r ≡ is_stored p name
stored_is p plan groups f name r ep eg ef er =
    er ∙ ap (λ (gs : List CodeGroup). list_any (has_function f) (map group_of gs)) eg
    ∙ ap (λ (q : Plan). list_any (has_function f) q.groups) ep
    ∙ ap (λ (l : List ℕ). is_stored p l) ef
