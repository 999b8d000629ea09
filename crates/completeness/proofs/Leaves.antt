-- The lines `store` and `publish` of what a piece does, with the symbols and buffers that are in scope there.
use Rattle.std.proofs.Common.{◌≡◌, ℕ, suc, ◌+◌, List, [], ◌∷◌, ◌++◌, length, map, Some, refl, sym, ap, ◌∙◌, subst, inl, inr, arith}
use Rattle.std.specs.Prelude.{false, slice_get}
use Rattle.lin.specs.declared.span.Span1.{Span1}
use Rattle.plan.specs.declared.plan.Group.{Group as CodeGroup}
use Rattle.plan.specs.declared.certificate.cert.Claim.{Claim as CodeClaim}
use Rattle.plan.specs.Plan.{Statement, Seq, For, Let, First, Guard, Alloc, Fetch, Store, Publish, Statements, Empty, Then, Group, Plan, block}
use Rattle.plan.specs.View.{group_of, statement_of}
use Rattle.plan.specs.Lines.{block_lines, group_line}
use Rattle.plan.specs.Certificate.Certificate.{Certificate}
use Rattle.meaning.specs.Algorithm.{Algorithm}
use Rattle.soundness.specs.Given.{outline_of}
use Rattle.soundness.specs.Outline.Forms.{grid_symbols}
use Rattle.soundness.specs.Outline.Flaws.{line_told}
use Rattle.headline.proofs.Lists.{from_map}
use Rattle.sched.specs.declared.skeleton.Step.{Step}
use Rattle.sched.specs.declared.skeleton.Step.TheVariants.{Turns, Named, Tested}
use Rattle.sched.specs.Runs.{lines_to}
use Rattle.sched.specs.Skeleton.{NestText}
use Rattle.validation.specs.declared.stored.lines.GroupLines.{GroupLines}
use Rattle.validation.specs.Groups.Lines.{Here, in_loop, inside, before, symbols_after, buffers_after, after, is_empty, lines_from, start}
use Rattle.validation.specs.Groups.Inside.{Inside, InsideOne}
use Rattle.validation.specs.Groups.Wrong.{NamesUnknown}
use Rattle.sched.specs.Stored.{FormulaText, StoredText}
use Rattle.sched.specs.Loading.{Loads}
use Rattle.blocks.specs.Bodies.{IsStore, AreNests}
use Rattle.blocks.specs.Fetches.{FetchText, with_fetches}
use Rattle.completeness.specs.Laws.{IsUnknownInside}
use Rattle.completeness.proofs.Standing.{With, past_turns, past_named, past_tested, none_bound}
use Rattle.completeness.proofs.Standing.{Here as Bound}
use Rattle.completeness.proofs.Spots.{Has, has_first, has_last, joined_twice}

-- ---- scopes grow

-- what is in scope at the one is so at the other
abbrev pub More : List ℕ → List ℕ → Type 0
More xs ys = (s : ℕ) → Has xs s → Has ys s

symbols_more : (a : Statement) (ss : List ℕ) → More ss (symbols_after a ss)
symbols_more (Let i pick forms) ss s h = has_first ss (i ∷ []) s h
symbols_more (Seq all) ss s h = h
symbols_more (For i x kind body) ss s h = h
symbols_more (First i a b) ss s h = h
symbols_more (Guard low high body) ss s h = h
symbols_more (Alloc b f places) ss s h = h
symbols_more (Fetch b g region) ss s h = h
symbols_more (Store b k at e) ss s h = h
symbols_more (Publish k) ss s h = h

buffers_more : (a : Statement) (bs : List ℕ) → More bs (buffers_after a bs)
buffers_more (Alloc b f places) bs s h = has_first bs (b ∷ []) s h
buffers_more (Seq all) bs s h = h
buffers_more (For i x kind body) bs s h = h
buffers_more (Let i pick forms) bs s h = h
buffers_more (First i a b) bs s h = h
buffers_more (Guard low high body) bs s h = h
buffers_more (Fetch b g region) bs s h = h
buffers_more (Store b k at e) bs s h = h
buffers_more (Publish k) bs s h = h

pub more_has : (P : ℕ → Type 0) (ss : List ℕ) (i : ℕ) → ((s : ℕ) → P s → Has ss s) → (s : ℕ) → With P i s → Has (ss ++ i ∷ []) s
more_has P ss i h s (inl p) = has_first ss (i ∷ []) s (h s p)
more_has P ss i h s (inr e) = subst (λ (s : ℕ). Has (ss ++ i ∷ []) s) e (has_last ss i)

-- ---- by the symbols and buffers in scope alone

-- of each store and each line `publish` in the statement this is not so, where these symbols and buffers are in scope
module _ (F : Statement → List ℕ → List ℕ → Type 0) where
  abbrev mutual
    pub Fits : Statement → List ℕ → List ℕ → Type 0
    Fits (Seq all) ss bs = FitAll all ss bs
    Fits (For i x kind body) ss bs = Fits body (ss ++ i ∷ []) bs
    Fits (Let i pick forms) ss bs = Unit {0}
    Fits (First i a b) ss bs = ⊥
    Fits (Guard low high body) ss bs = Fits body ss bs
    Fits (Alloc b f places) ss bs = Unit {0}
    Fits (Fetch b g region) ss bs = Unit {0}
    Fits (Store b k at e) ss bs = ¬ F (Store b k at e) ss bs
    Fits (Publish k) ss bs = ¬ F (Publish k) ss bs

    pub FitAll : Statements → List ℕ → List ℕ → Type 0
    FitAll Empty ss bs = Unit {0}
    FitAll (Then a rest) ss bs = Fits a ss bs × FitAll rest (symbols_after a ss) (buffers_after a bs)

  joined_fit : (xs ys : List Statement) (ss bs : List ℕ) → FitAll (block xs) ss bs → ((us vs : List ℕ) → More ss us → More bs vs → FitAll (block ys) us vs) → FitAll (block (xs ++ ys)) ss bs
  joined_fit [] ys ss bs h k = k ss bs (λ s q. q) (λ s q. q)
  joined_fit (a ∷ xs) ys ss bs h k = (
    h.0,
    joined_fit xs ys (symbols_after a ss) (buffers_after a bs) h.1 (λ us vs m n. k us vs (λ s q. m s (symbols_more a ss s q)) (λ s q. n s (buffers_more a bs s q))),
  )

  -- behind these steps
  pub steps_fit : (P : ℕ → Type 0) (ts : List Step) (inner : Statements) (bs : List ℕ) → ((us : List ℕ) → ((s : ℕ) → Bound P ts s → Has us s) → FitAll inner us bs) → (ss : List ℕ) →
      ((s : ℕ) → P s → Has ss s) → FitAll (lines_to ts inner) ss bs
  steps_fit P [] inner bs k ss h = k ss (λ s b. h s (none_bound P s b))
  steps_fit P (Turns i x kind ∷ ts) inner bs k ss h =
      (steps_fit (With P i) ts inner bs (λ us u. k us (λ s b. u s (past_turns P i x kind ts s b))) (ss ++ i ∷ []) (more_has P ss i h), tt)
  steps_fit P (Named i pick fs ∷ ts) inner bs k ss h =
      (tt, steps_fit (With P i) ts inner bs (λ us u. k us (λ s b. u s (past_named P i pick fs ts s b))) (ss ++ i ∷ []) (more_has P ss i h))
  steps_fit P (Tested low high ∷ ts) inner bs k ss h = (steps_fit P ts inner bs (λ us u. k us (λ s b. u s (past_tested P low high ts s b))) ss h, tt)

  -- behind what is fetched
  pub fetches_fit : (fs : List FetchText) (rest : List Statement) (ss bs : List ℕ) → Has bs 0 → ((vs : List ℕ) → Has vs 0 → FitAll (block rest) ss vs) → FitAll (block (with_fetches fs rest)) ss bs
  fetches_fit [] rest ss bs held k = k bs held
  fetches_fit (f ∷ fs) rest ss bs held k = (tt, (tt, fetches_fit fs rest ss (bs ++ f.buffer ∷ []) (has_first bs (f.buffer ∷ []) 0 held) k))

  -- the store of a nest, where symbols are in scope of which P is so, and those that the steps bind, and the piece's own buffer
  abbrev pub StoreFits : StoredText → List FormulaText → (ℕ → Type 0) → Loads → ℕ → NestText → Type 0
  StoreFits g fs P ms d w = (store : Statement) → IsStore g fs ms d w store → (us vs : List ℕ) → ((s : ℕ) → Bound P w.steps s → Has us s) → Has vs 0 → FitAll (Then store Empty) us vs

  -- nests one behind another, each with its claim, where something is so of the loads at each, and of the last line
  module _ (g : StoredText) (fs : List FormulaText) (r : List Span1) (P : ℕ → Type 0) (nests : List NestText) (own : List CodeClaim) (base : ℕ) (Ready : ℕ → Loads → Type 0)
      (next : (d m : ℕ) (v : CodeClaim) (ms : Loads) → m ≡ base + d → slice_get own d ≡ Some v → Ready d ms → Ready (d + 1) (ms ++ (g.subject.name, m) ∷ []))
      (stores : (ms : Loads) (d : ℕ) (w : NestText) → Ready d ms → slice_get nests d ≡ Some w → StoreFits g fs P ms d w) (claim : ℕ)
      (publishes : (us vs : List ℕ) → F (Publish claim) us vs → ⊥) where
    pub nests_fit : (ms : Loads) (m line d : ℕ) (ns : List NestText) (xs : List Statement) (cs : List CodeClaim) → AreNests g fs r ms m line d ns xs cs → m ≡ base + d → Ready d ms →
        ((j : ℕ) (w : NestText) → slice_get ns j ≡ Some w → slice_get nests (d + j) ≡ Some w) → ((j : ℕ) (v : CodeClaim) → slice_get cs j ≡ Some v → slice_get own (d + j) ≡ Some v) →
        (ss bs : List ℕ) → ((s : ℕ) → P s → Has ss s) → Has bs 0 → FitAll (block (xs ++ Publish claim ∷ [])) ss bs
    nests_fit ms m line d [] xs cs is e ready there mine ss bs over held =
        subst (λ (ys : List Statement). FitAll (block (ys ++ Publish claim ∷ [])) ss bs) (sym is.0) (publishes ss bs, tt)
    nests_fit ms m line d (w ∷ ns) xs [] is e ready there mine ss bs over held = absurd is
    nests_fit ms m line d (w ∷ ns) xs (v ∷ cs) is e ready there mine ss bs over held =
        let nest = is.here.nest in
        let none : d + 0 ≡ d = omega arith in
        let fits = stores ms d w ready (ap (slice_get nests) (sym none) ∙ there 0 w refl) nest.store nest.stores in
        let here : FitAll (block is.first) ss bs = subst (λ (code : Statements). FitAll code ss bs) (sym nest.comes)
        (steps_fit P w.steps (Then nest.store Empty) bs (λ us has. fits us bs has held) ss over) in
        let later = nests_fit (ms ++ (g.subject.name, m) ∷ []) (m + 1) (line + block_lines (block is.first)) (d + 1) ns is.others cs is.behind (omega (arith, e))
        (next d m v ms e (ap (slice_get own) (sym none) ∙ mine 0 v refl) ready)
        (λ j y q. let after : d + suc j ≡ (d + 1) + j = omega arith in ap (slice_get nests) (sym after) ∙ there (suc j) y q)
        (λ j y q. let after : d + suc j ≡ (d + 1) + j = omega arith in ap (slice_get own) (sym after) ∙ mine (suc j) y q) in
        let joined = joined_fit is.first (is.others ++ Publish claim ∷ []) ss bs here (λ us vs m n. later us vs (λ s p. m s (over s p)) (n 0 held)) in
        let are : xs ++ Publish claim ∷ [] ≡ is.first ++ (is.others ++ Publish claim ∷ []) =
        ap (λ (ys : List Statement). ys ++ Publish claim ∷ []) is.are ∙ joined_twice is.first is.others (Publish claim ∷ []) in
        subst (λ (ys : List Statement). FitAll (block ys) ss bs) (sym are) joined

-- ---- groups

-- the line is one of `store` or `publish`
abbrev pub IsLeaf : Statement → Type 0
IsLeaf (Store b k at e) = Unit {0}
IsLeaf (Publish k) = Unit {0}
IsLeaf _ = ⊥

-- somewhere in a group, where these symbols and buffers are in scope
abbrev pub spot : GroupLines → List ℕ → List ℕ → Here
spot group ss bs = record {
  group = group;
  line = 0;
  symbols = ss;
  loops = [];
  buffers = bs;
  used = 0;
  bound = 0;
  held = 0;
  fetching = false;
  last = false;
}

module _ (a : Algorithm) (p : Plan) (c : Certificate) (IsOne : Statement → Type 0) (only : (s : Statement) → IsOne s → IsLeaf s) where
  -- what the checker finds wrong with such a line of this group
  abbrev pub Wrong : ℕ → Group → GroupLines → Statement → List ℕ → List ℕ → Type 0
  Wrong n g group s ss bs = IsOne s × NamesUnknown a p c g (outline_of p c n g) s (spot group ss bs)

  module _ (n : ℕ) (g : Group) (line : ℕ) where
    abbrev Flawed : Statement → Here → Type 0
    Flawed s here = (line_told here.line ≡ line) × (IsOne s × NamesUnknown a p c g (outline_of p c n g) s here)

    mutual
      none_inside : (s : Statement) (here : Here) → Fits (Wrong n g here.group) s here.symbols here.buffers → Inside Flawed s here → ⊥
      none_inside (Seq all) here h k = none_in_all all here h k
      none_inside (For i x kind body) here h (inl k) = only (For i x kind body) k.1.0
      none_inside (For i x kind body) here h (inr k) = none_inside body (in_loop i here) h k
      none_inside (Let i pick forms) here h k = only (Let i pick forms) k.1.0
      none_inside (First i b d) here h k = h
      none_inside (Guard low high body) here h (inl k) = only (Guard low high body) k.1.0
      none_inside (Guard low high body) here h (inr k) = none_inside body (inside here) h k
      none_inside (Alloc b f places) here h k = only (Alloc b f places) k.1.0
      none_inside (Fetch b u region) here h k = only (Fetch b u region) k.1.0
      none_inside (Store b q at e) here h k = h k.1
      none_inside (Publish q) here h k = h k.1

      none_in_all : (all : Statements) (here : Here) → FitAll (Wrong n g here.group) all here.symbols here.buffers → InsideOne Flawed all here → ⊥
      none_in_all Empty here h k = k
      none_in_all (Then s rest) here h (inl k) = none_inside s (before (is_empty rest) here) h.0 k
      none_in_all (Then s rest) here h (inr k) = none_in_all rest (after s here) h.1 k

  -- no such line of any of these groups is told
  pub none_at : (made : List CodeGroup) → p.groups ≡ map group_of made →
      ((n : ℕ) (q : CodeGroup) → slice_get made n ≡ Some q →
      Fits (Wrong n (group_of q) (lines_from (line_told (group_line p n)) (group_of q))) (statement_of q.body) (grid_symbols (length q.grid.items)) []) →
      (line : ℕ) → IsUnknownInside IsOne a p c line → ⊥
  none_at made are clear line h =
      let x = from_map group_of made h.number h.group (ap (λ (gs : List Group). slice_get gs h.number) (sym are) ∙ h.there) in
      let q = x.0 in
      let first : Group → Here = λ u. start (line_told (group_line p h.number)) u in
      let stands = subst (λ (u : Group). Inside (λ s here. (line_told here.line ≡ line) × (IsOne s × NamesUnknown a p c u (outline_of p c h.number u) s here)) u.body (first u)) x.2 h.stands in
      none_inside h.number (group_of q) line (statement_of q.body) (first (group_of q)) (clear h.number q x.1) stands
