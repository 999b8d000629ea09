-- The shares of a plan's pieces can be told where its lines have no flaw.
use Rattle.std.proofs.Common.{◌≡◌, ℕ, ◌≤◌, List, [], ◌∷◌, length, Bool, true, false, Option, Some, None, refl, sym, ap, ◌∙◌, arith, subst, inl, inr}
use Rattle.std.specs.Prelude.{◌&&◌, ◌||◌, nat_lt, slice_get, MatchOption}
use Rattle.std.specs.List.{list_all, AllByRecursion}
use Rattle.std.proofs.lemmas.Bool.{false≢true}
use Rattle.std.proofs.lemmas.List.Elements.{All-from_recursion}
use Rattle.std.proofs.lemmas.Option.{slice_get_cases}
use Rattle.lin.specs.Forms.{Form}
use Rattle.lin.specs.declared.span.Span1.{Span1}
use Rattle.meaning.specs.Algorithm.{Algorithm}
use Rattle.plan.specs.declared.stmt.Pick.{Pick}
use Rattle.plan.specs.Plan.{Statement, Seq, For, Let, First, Guard, Alloc, Fetch, Store, Publish, Statements, Empty, Then, Group, Plan}
use Rattle.plan.specs.declared.certificate.cert.Need.{Need}
use Rattle.plan.specs.Certificate.Certificate.{Certificate}
use Rattle.plan.specs.Certificate.Cells.{own_region, no_symbols}
use Rattle.plan.specs.Semantics.Setting.{setting_of, group_name}
use Rattle.soundness.specs.Origins.{Outline}
use Rattle.soundness.specs.Given.{outline_of}
use Rattle.soundness.proofs.Refines.{and_parts, eq_true}
use Rattle.headline.specs.Fetched.{fetches, block_fetches}
use Rattle.soundness.specs.Outline.Forms.{are_over, are_within_limits, spans_are_within_limits, is_listed}
use Rattle.shares.specs.declared.boxes.Side.{Side}
use Rattle.shares.specs.Boxes.{side, sides}
use Rattle.shares.specs.Shared.{IsLike, LineIsShared, LinesAreShared, NeedIsShared}
use Rattle.validation.specs.Certificate.Clear.{IsRegion}
use Rattle.validation.specs.Groups.Sizes.{is_extent, extent_of}
use Rattle.validation.specs.Stored.Definitions.{Parts, parts_named, has_variables}
use Rattle.validation.specs.Groups.Lines.{Here, before, after, in_later, in_loop, inside, is_empty, is_new, may_precede, flaws, block_flaws, flaws_of_groups, start}
use Rattle.validation.proofs.Flawless.{ends_are, fine, none_in, group_fine, body_fine}
use Rattle.audit.specs.Verdict.Clear.{PlansAreDrawn, PlansAreShared}
use Rattle.audit.proofs.OfVerdict.Lists.{lt_true, forms_limited, spans_limited, looked_up}
use Rattle.audit.proofs.OfVerdict.Small.{extent, count_is, line_fine, plans_small}
use Rattle.audit.proofs.OfVerdict.Near.{fetch_fine}
use Rattle.audit.proofs.OfVerdict.Apart.{grids_small}

-- ---- regions

few_sides : (xs : List Span1) → list_all is_extent xs ≡ true → AllByRecursion (λ x. x.count ≤ 8192) (sides no_symbols xs)
few_sides [] h = tt
few_sides (x ∷ xs) h =
    let k = and_parts (is_extent x) (list_all is_extent xs) h in
    let e = extent x k.0 in
    let counted : (side no_symbols x).count ≡ extent_of x = count_is x in
    let few = e.few in
    (omega (arith, counted, few), few_sides xs k.1)

like : (count grid : ℕ) (xs : List Span1) → IsRegion count grid xs → IsLike xs count
like count grid xs r = (spans_limited xs r.limits, r.long)

own_like : (count grid : ℕ) (o : Option (List Span1)) → MatchOption o ⊥ (IsRegion count grid) → MatchOption o ⊥ (λ xs. IsLike xs count)
own_like count grid None h = absurd h
own_like count grid (Some xs) h = like count grid xs h

need_like : (n : Need) (o q : Option Group) → MatchOption o ⊥ (λ g. MatchOption q ⊥ (λ h. IsRegion (length h.grid) (length g.grid) n.region)) → MatchOption q ⊥ (λ g. IsLike n.region (length g.grid))
need_like n None q h = absurd h
need_like n (Some g) None h = absurd h
need_like n (Some g) (Some q) h = like (length q.grid) (length g.grid) n.region h

-- ---- lines

left_false : (b c : Bool) → b ≡ false → (b && c) ≡ false
left_false b c h = ap (λ x. x && c) h

-- two lists as long as one function's variables
as_long : (f : Option Parts) (m n : ℕ) → has_variables f m ≡ true → has_variables f n ≡ true → m ≡ n
as_long None m n h k = absurd (false≢true h)
as_long (Some f) m n h k = sym (eq_true (length f.variables) m h) ∙ eq_true (length f.variables) n k

module _ (a : Algorithm) (p : Plan) (c : Certificate) (g : Group) (o : Outline) where
  -- where no lines `fetch` may come any more, none do
  mutual
    pub no_fetch : (s : Statement) (here : Here) → here.fetching ≡ false → flaws a p c g o s here ≡ [] → fetches s ≡ false
    no_fetch (Seq all) here l h = block_no_fetch all here l h
    no_fetch (For i x kind body) here l h = no_fetch body (in_loop i here) refl (none_in _ _ h).1
    no_fetch (Let i pick ls) here l h = refl
    no_fetch (First i s r) here l h =
        let k = none_in _ _ (none_in _ _ h).1 in
        let first = no_fetch s (inside here) refl k.0 in
        let others = no_fetch r (in_later s here) refl k.1 in
        λ j. first j || others j
    no_fetch (Guard low high body) here l h = no_fetch body (inside here) refl (none_in _ _ h).1
    no_fetch (Alloc b f places) here l h = refl
    no_fetch (Fetch b k region) here l h = absurd (false≢true (sym l ∙ (fetch_fine a p c g o b k region here h).fetching))
    no_fetch (Store b k at e) here l h = refl
    no_fetch (Publish k) here l h = refl

    block_no_fetch : (all : Statements) (here : Here) → here.fetching ≡ false → block_flaws a p c g o all here ≡ [] → block_fetches all ≡ false
    block_no_fetch Empty here l h = refl
    block_no_fetch (Then s rest) here l h =
        let k = none_in _ _ h in
        let first = no_fetch s (before (is_empty rest) here) l k.0 in
        let others = block_no_fetch rest (after s here) (left_false here.fetching (may_precede s) l) k.1 in
        λ i. first i || others i

-- a known group has as many spans as its function has variables
fetched_like : (a : Algorithm) (p : Plan) (c : Certificate) → flaws_of_groups a p c ≡ [] → (n : ℕ) (g : Group) (h : ℕ) (region : List Span1) → nat_lt h (length p.groups) ≡ true →
    has_variables (parts_named a ((setting_of p c n g).group_function h)) (length region) ≡ true → spans_are_within_limits region ≡ true → MatchOption (slice_get p.groups h) ⊥ (λ q. IsLike region (length q.region))
fetched_like a p c none n g h region known variables limits = elim (slice_get_cases p.groups h).1 [
  | inl k ↦
      let q = k.0 in
      let at = k.2 in
      let f = group_fine a p c none h q at in
      let l = line_fine a p c h q f in
      let named : (setting_of p c n g).group_function h ≡ q.function = ap (λ (x : Option Group). group_name x) at in
      let same = as_long (parts_named a q.function) (length region) (length q.region) (subst (λ (name : List ℕ). has_variables (parts_named a name) (length region) ≡ true) named variables) l.variables in
      subst (λ (x : Option Group). MatchOption x ⊥ (λ q. IsLike region (length q.region))) (sym at) (spans_limited region limits, same)
  | inr k ↦ let less = lt_true h (length p.groups) known in let past = k.0 in absurd (omega (arith, less, past))
]

module _ (a : Algorithm) (p : Plan) (c : Certificate) (none : flaws_of_groups a p c ≡ []) (n : ℕ) (g : Group) where
  abbrev o : Outline
  o = outline_of p c n g

  fetch_shared : (b k : ℕ) (region : List Span1) (here : Here) → flaws a p c g o (Fetch b k region) here ≡ [] → LineIsShared p (Fetch b k region)
  fetch_shared b k region here h = let f = fetch_fine a p c g o b k region here h in fetched_like a p c none n g k region f.group f.variables f.limits

  -- the forms of a line `let` are within the limits
  let_shared : (i : ℕ) (pick : Pick) (ls : List Form) (here : Here) → flaws a p c g o (Let i pick ls) here ≡ [] → LineIsShared p (Let i pick ls)
  let_shared i pick ls here h = forms_limited ls (fine here.line (is_new here.symbols i && are_over here.symbols ls) (are_within_limits ls) true (is_listed ls && nat_lt here.bound 256) h).forms

  split : (s : Statement) (rest : Statements) (here : Here) → block_flaws a p c g o (Then s rest) here ≡ [] → (flaws a p c g o s (before (is_empty rest) here) ≡ []) × (block_flaws a p c g o rest (after s here) ≡ [])
  split s rest here h = none_in (flaws a p c g o s (before (is_empty rest) here)) (block_flaws a p c g o rest (after s here)) h

  mutual
    pub line_shared : (s : Statement) (here : Here) → flaws a p c g o s here ≡ [] → LineIsShared p s
    line_shared (Seq all) here h = block_shared all here h
    line_shared (For i x kind body) here h = no_fetch a p c g o body (in_loop i here) refl (none_in _ _ h).1
    line_shared (Let i pick ls) here h = let_shared i pick ls here h
    line_shared (First i s r) here h =
        let k = none_in _ _ (none_in _ _ h).1 in
        let first = no_fetch a p c g o s (inside here) refl k.0 in
        let others = no_fetch a p c g o r (in_later s here) refl k.1 in
        λ j. first j || others j
    line_shared (Guard low high body) here h = no_fetch a p c g o body (inside here) refl (none_in _ _ h).1
    line_shared (Alloc b f places) here h = refl
    line_shared (Fetch b k region) here h = fetch_shared b k region here h
    line_shared (Store b k at e) here h = refl
    line_shared (Publish k) here h = refl

    block_shared : (all : Statements) (here : Here) → block_flaws a p c g o all here ≡ [] → LinesAreShared p all
    block_shared Empty here h = tt
    block_shared (Then s rest) here h =
        let k = split s rest here h in
        (line_shared s (before (is_empty rest) here) k.0, block_shared rest (after s here) k.1)

-- ---- plans

pub plans_drawn : PlansAreDrawn
plans_drawn a p c none =
    let small = plans_small a p c none in
    record {
      groups = λ n g at.
          let f = group_fine a p c none n g at in
          let l = line_fine a p c n g f in
          record {
            ends = ends_are g.region l.extents;
            limits = spans_limited g.region l.limits;
            extents = All-from_recursion (λ (x : Side). x.count ≤ 8192) (sides no_symbols g.region) (few_sides g.region l.extents);
            grid = grids_small a p c none n g at;
            body = line_shared a p c none n g g.body (start f.line g) (body_fine a p c n g f);
          };
      cells = small.cells;
      pieces = small.pieces;
    }

pub plans_shared : PlansAreShared
plans_shared a p c none clear =
    let drawn = plans_drawn a p c none in
    record {
      groups = λ n g at.
          let k = drawn.groups n g at in
          record {
            ends = k.ends;
            limits = k.limits;
            extents = k.extents;
            grid = k.grid;
            own = own_like (length g.region) (length g.grid) (own_region c.own n) (clear.own n g at);
            body = k.body;
          };
      needs = All-from_recursion (NeedIsShared p) c.needs (looked_up (NeedIsShared p) c.needs (λ i m at. need_like m (slice_get p.groups m.group) (slice_get p.groups m.needed) (clear.needs i m at)));
      cells = drawn.cells;
      pieces = drawn.pieces;
    }
