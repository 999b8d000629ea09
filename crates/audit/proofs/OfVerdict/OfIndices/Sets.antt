-- Where the coordinates of stores are shown to be i32 values, and those of fetched cells are, a piece sets no other points.
use Rattle.std.proofs.Common.{◌≡◌, ℕ, zero, suc, ◌+◌, ◌^◌, Bool, true, false, List, [], ◌∷◌, ◌++◌, map, refl, inl, inr, arith}
use Rattle.std.specs.Prelude.{ℤ, pos, neg_ℤ, ◌-◌, ◌&&◌, if◌then◌else◌, int_le, flat_map, take}
use Rattle.std.specs.List.{AllByRecursion, list_all}
use Rattle.std.proofs.lemmas.Int.{ints}
use Rattle.std.proofs.lemmas.List.Elements.{All-from_recursion}
use Rattle.numeric.specs.declared.ty.Ty.TheVariants.{I32}
use Rattle.numeric.specs.Wrap.{IsOf}
use Rattle.tree.specs.Term.{Term}
use Rattle.meaning.specs.Functions.{IsPoint}
use Rattle.plan.specs.Plan.{Index, At, Found, Coordinate, Statement, Seq, For, Let, First, Guard, Alloc, Fetch, Store, Publish, Statements, Empty, Then, Group}
use Rattle.plan.specs.Lines.{lines}
use Rattle.plan.specs.Symbols.{Symbols, bind, form_value, largest, points, turns}
use Rattle.plan.specs.Certificate.Certificate.{Certificate}
use Rattle.plan.specs.Certificate.Cells.{Cell, cell, grid_point, grid_symbols}
use Rattle.plan.specs.Semantics.Actions.{Action, Take, Give, Setting, Target, action_for, actions, after, block_actions, fixed, index_target, target}
use Rattle.soundness.specs.Binders.View.{grid_binders}
use Rattle.soundness.specs.Claims.{In}
use Rattle.soundness.specs.Obligations.{Binder, Ranged, Passed, Respects, Rules, Suited}
use Rattle.soundness.specs.Origins.{Given}
use Rattle.soundness.proofs.Forms.{rec_left, rec_right}
use Rattle.soundness.proofs.Refines.{and_parts}
use Rattle.headline.specs.Fetched.{block_fetched_cells, fetched_cells}
use Rattle.rules.specs.Widths.Widths.{binders_after, block_wide_lines, has_few_turns, is_i32, is_near_form, is_near_span, line_unless, store_lines, wide_lines}
use Rattle.validation.specs.Groups.Lines.{symbols_after}
use Rattle.audit.specs.Verdict.Bounded.Near.{GroupIsNear, HasForms, HasFormsInBlock, grid_numbers}
use Rattle.audit.specs.Verdict.Indices.{SetsIndices, SetAreIndices}
use Rattle.audit.proofs.OfVerdict.Walk.{Here, behind, between, first_line, inside_guard, near_ends, none_both, none_unless, turn}

-- ---- lists of actions

abbrev AreSet : List Action → Type 0
AreSet todo = AllByRecursion SetsIndices todo

abbrev AreFetched : List Cell → Type 0
AreFetched xs = AllByRecursion (λ (y : Cell). IsPoint y.point) xs

set_both : (xs ys : List Action) → AreSet xs → AreSet ys → AreSet (xs ++ ys)
set_both [] ys h k = k
set_both (x ∷ xs) ys h k = (h.0, set_both xs ys h.1 k)

set_each : (f : ℤ → List Cell) (g : ℤ → List Action) (zs : List ℤ) → ((z : ℤ) → In z zs → AreFetched (f z) → AreSet (g z)) → AreFetched (flat_map f zs) → AreSet (flat_map g zs)
set_each f g [] h k = tt
set_each f g (z ∷ zs) h k =
    set_both (g z) (flat_map g zs) (h z (inl refl) (rec_left (λ (y : Cell). IsPoint y.point) (f z) (flat_map f zs) k))
    (set_each f g zs (λ y m. h y (inr m)) (rec_right (λ (y : Cell). IsPoint y.point) (f z) (flat_map f zs) k))

set_either : (v : Bool) (xs ys : List Cell) (us ws : List Action) → (v ≡ true → AreFetched xs → AreSet us) → (v ≡ false → AreFetched ys → AreSet ws) →
    AreFetched (if v then xs else ys) → AreSet (if v then us else ws)
set_either true xs ys us ws h k r = h refl r
set_either false xs ys us ws h k r = k refl r

set_takes : (b g : ℕ) (f : List ℕ) (ps : List (List ℤ)) → AreFetched (map (cell g) ps) → AreSet (map (Take b f) ps)
set_takes b g f [] h = tt
set_takes b g f (p ∷ ps) h = (h.0, set_takes b g f ps h.1)

set_gives : (c : ℕ) (ps : List (List ℤ)) → AreSet (map (Give c) ps)
set_gives c [] = tt
set_gives c (p ∷ ps) = (tt, set_gives c ps)

set_store : (v : Bool) (b : ℕ) (f : List ℕ) (k : ℕ) (names : List (List ℕ)) (at : List Target) (over : List ℤ) (e : Term) →
    AllByRecursion (IsOf I32) (map fixed at) → AreSet (action_for v b f k names at over e ∷ [])
set_store true b f k names at over e h = (All-from_recursion (IsOf I32) (map fixed at) h, tt)
set_store false b f k names at over e h = (tt, tt)

-- ---- statements

module _ (given : Given) (rules : Rules) (c : Certificate) (n : ℕ) (g : Group) (begins : ℕ) (suited : Suited given rules) (is : GroupIsNear rules c n g begins) where
  abbrev setting : Setting
  setting = given.outline.setting

  abbrev There : List ℕ → List Binder → Symbols → Type 0
  There symbols bs s = Here given rules c n g begins suited is symbols bs s

  -- a coordinate that no form tells counts as 0
  index_is : (bs : List Binder) (s : Symbols) → Respects bs s → (i : Index) → is_i32 rules bs i ≡ true → IsOf I32 (fixed (index_target s i))
  index_is bs s r (At l) h =
      let p = between given rules c n g begins suited is bs l (neg_ℤ (pos (2 ^ 31))) (pos (2 ^ 31 - 1)) s h r in
      record { from = omega (arith, ints, p); to = omega (arith, ints, p) }
  index_is bs s r (Found e) h = record { from = omega (arith, ints); to = omega (arith, ints) }

  point_is : (bs : List Binder) (s : Symbols) → Respects bs s → (count : ℕ) (at : List Coordinate) → list_all (λ x. is_i32 rules bs x.index) at ≡ true →
      AllByRecursion (IsOf I32) (map fixed (map (target s) (take count at)))
  point_is bs s r zero [] h = tt
  point_is bs s r zero (x ∷ xs) h = tt
  point_is bs s r (suc count) [] h = tt
  point_is bs s r (suc count) (x ∷ xs) h =
      let parts = and_parts (is_i32 rules bs x.index) (list_all (λ y. is_i32 rules bs y.index) xs) h in
      (index_is bs s r x.index parts.0, point_is bs s r count xs parts.1)

  mutual
    set_in : (a : Statement) (symbols : List ℕ) (bs : List Binder) (line : ℕ) (s : Symbols) → There symbols bs s → HasForms a symbols → wide_lines rules bs line a ≡ [] →
        AreFetched (fetched_cells a s) → AreSet (actions setting a s)
    set_in (Seq all) symbols bs line s h k f looked = set_in_block all symbols bs line s h k f looked
    set_in (For i x kind body) symbols bs line s h k f looked =
        let short = line_unless (has_few_turns rules bs x kind) line in
        let near = near_ends (is_near_span rules bs x) line (store_lines (line + 1) body) (short ++ wide_lines rules (Ranged i x ∷ bs) (line + 1) body) f in
        let inner = none_both short (wide_lines rules (Ranged i x ∷ bs) (line + 1) body) near.1 in
        let first : ℤ → Bool = λ z. int_le z (largest s x.lower) in
        set_each (λ z. fetched_cells body (bind s i z (first z))) (λ z. actions setting body (bind s i z (first z))) (turns s x)
        (λ z m. set_in body (symbols ++ i ∷ []) (Ranged i x ∷ bs) (line + 1) (bind s i z (first z))
        (turn given rules c n g begins suited is i x symbols bs s z (first z) h k.0 k.1 m) k.2 inner.1) looked
    set_in (Let i pick ls) symbols bs line s h k f looked = tt
    set_in (First i a b) symbols bs line s h k f looked =
        let parts = none_both (wide_lines rules bs (line + 1) a) (wide_lines rules bs (line + 2 + lines a) b) f in
        set_either (s.first i) (fetched_cells a s) (fetched_cells b s) (actions setting a s) (actions setting b s)
        (λ e. set_in a symbols bs (line + 1) s h k.0 parts.0) (λ e. set_in b symbols bs (line + 2 + lines a) s h k.1 parts.1) looked
    set_in (Guard low high body) symbols bs line s h k f looked =
        let near = near_ends (is_near_form rules bs low && is_near_form rules bs high) line (store_lines (line + 1) body) (wide_lines rules (Passed low high ∷ bs) (line + 1) body) f in
        set_either (int_le (form_value low s) (form_value high s)) (fetched_cells body s) [] (actions setting body s) []
        (λ e. set_in body symbols (Passed low high ∷ bs) (line + 1) s (inside_guard given rules c n g begins suited is low high symbols bs s h k.0 k.1 e) k.2 near.1) (λ e l. tt) looked
    set_in (Alloc b f places) symbols bs line s h k w looked = (tt, tt)
    set_in (Fetch b j region) symbols bs line s h k f looked = set_takes b j (setting.group_function j) (points s region) looked
    set_in (Store b j at e) symbols bs line s h k f looked =
        set_store _ b (setting.buffer_function b) j _ (map (target s) (take (setting.dimensions b) at)) _ e
        (point_is bs s h.respects (setting.dimensions b) at (none_unless (list_all (λ x. is_i32 rules bs x.index) at) line f))
    set_in (Publish j) symbols bs line s h k f looked = set_gives j (setting.own s)

    set_in_block : (all : Statements) (symbols : List ℕ) (bs : List Binder) (line : ℕ) (s : Symbols) → There symbols bs s → HasFormsInBlock all symbols → block_wide_lines rules bs line all ≡ [] →
        AreFetched (block_fetched_cells all s) → AreSet (block_actions setting all s)
    set_in_block Empty symbols bs line s h k f looked = tt
    set_in_block (Then a rest) symbols bs line s h k f looked =
        let parts = none_both (wide_lines rules bs line a) (block_wide_lines rules (binders_after a bs) (line + lines a) rest) f in
        set_both (actions setting a s) (block_actions setting rest (after a s))
        (set_in a symbols bs line s h k.0 parts.0 (rec_left (λ (y : Cell). IsPoint y.point) (fetched_cells a s) (block_fetched_cells rest (after a s)) looked))
        (set_in_block rest (symbols_after a symbols) (binders_after a bs) (line + lines a) (after a s) (behind given rules c n g begins suited is a symbols bs s h k.0) k.1 parts.1
        (rec_right (λ (y : Cell). IsPoint y.point) (fetched_cells a s) (block_fetched_cells rest (after a s)) looked))

pub set_indices : SetAreIndices
set_indices given rules c n g line k suited is less looked =
    set_in given rules c n g line suited is g.body (grid_numbers g.grid) (grid_binders g.grid) line (grid_symbols (grid_point g.grid k))
    (first_line given rules c n g line suited is k less) is.lines is.loops looked
