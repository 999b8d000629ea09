-- What the lines of a statement owe is shown alike where none of its loops is written out.
use Rattle.std.proofs.Common.{◌≡◌, ℕ, zero, suc, ◌+◌, ◌-◌, Bool, true, false, List, [], ◌∷◌, ◌++◌, map, Option, Some, None, refl, sym, ap, ◌∙◌}
use Rattle.std.specs.Prelude.{◌==◌, ◌&&◌, not, if◌then◌else◌, filter, flat_map}
use Rattle.std.specs.List.{list_any, list_all}
use Rattle.lin.specs.declared.span.Span1.{Span1}
use Rattle.meaning.specs.Algorithm.{Range}
use Rattle.meaning.specs.Names.{same_name}
use Rattle.plan.specs.declared.certificate.cert.Window.{Window}
use Rattle.plan.specs.declared.stmt.Places.{Places}
use Rattle.plan.specs.Lines.{lines, block_lines}
use Rattle.plan.specs.Plan.{Statement, Seq, For, Let, First, Guard, Alloc, Fetch, Store, Publish, Statements, Empty, Then}
use Rattle.plan.specs.Semantics.Actions.{Setting}
use Rattle.soundness.specs.Origins.{Outline, or_same}
use Rattle.soundness.specs.Claims.{changes, block_changes, is_update, updates, block_updates, writes, block_writes}
use Rattle.soundness.specs.Obligations.{Binder, Ranged, Buffer, Known, Updating, Rules, Obligation, Code, Undefined, NotMade, Wanted, Named, Inside, InTurn, is_member, window_of, without, gives, stands_alone, places_of, has_symbol, obligation, region_of, is_left, follows, nests_of, within, in_guard, in_block, in_loop, more_buffers, more_binders, makes, onwards, kept_in, kept_of, goes_on, made, slid, held, turn_code, turn_line, earlier_obligations, making_obligations, claim_obligations, turn_obligations, block_obligations}
use Rattle.soundness.specs.Shown.{Nests, is_shown, all_shown, shows}
use Rattle.tails.specs.Windows.Nests.{slid_nests}
use Rattle.audit.specs.Verdict.Kinds.{rolled, block_rolled}
use Rattle.audit.specs.Verdict.Owed.{ShownStays}
use Rattle.audit.proofs.OfVerdict.OfTests.{changes_same, block_changes_same, tests_stay}

-- ---- what is told of statements

mutual
  lines_same : (a : Statement) → lines a ≡ lines (rolled a)
  lines_same (Seq all) = block_lines_same all
  lines_same (For i x kind body) = λ j. lines_same body j + 2
  lines_same (Let i pick forms) = refl
  lines_same (First i a b) = λ j. lines_same a j + lines_same b j + 3
  lines_same (Guard low high body) = λ j. lines_same body j + 2
  lines_same (Alloc b f places) = refl
  lines_same (Fetch b g region) = refl
  lines_same (Store b k at e) = refl
  lines_same (Publish c) = refl

  block_lines_same : (all : Statements) → block_lines all ≡ block_lines (block_rolled all)
  block_lines_same Empty = refl
  block_lines_same (Then a rest) = λ j. lines_same a j + block_lines_same rest j

module _ (setting : Setting) (b : ℕ) (f : List ℕ) where
  mutual
    updates_same : (a : Statement) → updates setting a b f ≡ updates setting (rolled a) b f
    updates_same (Seq all) = block_updates_same all
    updates_same (For i x kind body) = updates_same body
    updates_same (Let i pick forms) = refl
    updates_same (First i a c) = λ j. updates_same a j && updates_same c j
    updates_same (Guard low high body) = updates_same body
    updates_same (Alloc c g places) = refl
    updates_same (Fetch c g region) = refl
    updates_same (Store c k at e) = refl
    updates_same (Publish c) = refl

    block_updates_same : (all : Statements) → block_updates setting all b f ≡ block_updates setting (block_rolled all) b f
    block_updates_same Empty = refl
    block_updates_same (Then a rest) = λ j. updates_same a j && block_updates_same rest j

  mutual
    writes_same : (a : Statement) → writes setting a b f ≡ writes setting (rolled a) b f
    writes_same (Seq all) = block_writes_same all
    writes_same (For i x kind body) = writes_same body
    writes_same (Let i pick forms) = refl
    writes_same (First i a c) = λ j. writes_same a j && writes_same c j
    writes_same (Guard low high body) = writes_same body
    writes_same (Alloc c g places) = refl
    writes_same (Fetch c g region) = refl
    writes_same (Store c k at e) = refl
    writes_same (Publish c) = refl

    block_writes_same : (all : Statements) → block_writes setting all b f ≡ block_writes setting (block_rolled all) b f
    block_writes_same Empty = refl
    block_writes_same (Then a rest) = λ j. writes_same a j && block_writes_same rest j

gives_same : (i : ℕ) (a : Statement) → gives i a ≡ gives i (rolled a)
gives_same i (Seq all) = refl
gives_same i (For k x kind body) = refl
gives_same i (Let k pick forms) = refl
gives_same i (First k a c) = refl
gives_same i (Guard low high body) = refl
gives_same i (Alloc c f places) = refl
gives_same i (Fetch c g region) = refl
gives_same i (Store c k at e) = refl
gives_same i (Publish c) = refl

-- ---- what is known

module _ (outline : Outline) (rules : Rules) where
  buffers_same : (a : Statement) (xs : List Buffer) → more_buffers outline rules a xs ≡ more_buffers outline rules (rolled a) xs
  buffers_same (Seq all) xs = refl
  buffers_same (For k x kind body) xs = refl
  buffers_same (Let k pick forms) xs = refl
  buffers_same (First k a c) xs = refl
  buffers_same (Guard low high body) xs = refl
  buffers_same (Alloc c f places) xs = refl
  buffers_same (Fetch c g region) xs = refl
  buffers_same (Store c k at e) xs = refl
  buffers_same (Publish c) xs = refl

  binders_same : (a : Statement) (xs : List Binder) → more_binders outline rules a xs ≡ more_binders outline rules (rolled a) xs
  binders_same (Seq all) xs = refl
  binders_same (For k x kind body) xs = refl
  binders_same (Let k pick forms) xs = refl
  binders_same (First k a c) xs = refl
  binders_same (Guard low high body) xs = refl
  binders_same (Alloc c f places) xs = refl
  binders_same (Fetch c g region) xs = refl
  binders_same (Store c k at e) xs = refl
  binders_same (Publish c) xs = refl

  makes_same : (a : Statement) (next : List ℕ) → makes outline rules a next ≡ makes outline rules (rolled a) next
  makes_same (Seq all) next = refl
  makes_same (For k x kind body) next = refl
  makes_same (Let k pick forms) next = refl
  makes_same (First k a c) next = refl
  makes_same (Guard low high body) next = refl
  makes_same (Alloc c f places) next = refl
  makes_same (Fetch c g region) next = refl
  makes_same (Store c k at e) next = refl
  makes_same (Publish c) next = refl

  left_same : (a : Statement) (cs : List ℕ) → filter (is_left outline rules a) cs ≡ filter (is_left outline rules (rolled a)) cs
  left_same a cs = λ j. filter (λ (c : ℕ). not (changes_same a (outline.claim c).buffer j)) cs

  loop_known : (i : ℕ) (x : Span1) (a : Statement) (known : Known) → in_loop outline rules i x a known ≡ in_loop outline rules i x (rolled a) known
  loop_known i x a known = λ j. record { binders = Ranged i x ∷ known.binders; buffers = known.buffers; claims = left_same a known.claims j; own = []; updating = known.updating }

  within_known : (a : Statement) (next : List ℕ) (known : Known) → within outline rules a next known ≡ within outline rules (rolled a) next known
  within_known a next known = λ j. record {
    binders = known.binders;
    buffers = known.buffers;
    claims = known.claims;
    own = known.own;
    updating = flat_map (λ (c : ℕ). map (λ (d : ℕ). record { before = d; next = c }) (filter (λ (d : ℕ). follows outline rules d c) known.own))
        (filter (λ (c : ℕ). updates_same outline.setting (outline.claim c).buffer (outline.claim c).function a j) next) ++ known.updating;
  }

  onwards_known : (a : Statement) (next : List ℕ) (known : Known) → onwards outline rules a next known ≡ onwards outline rules (rolled a) next known
  onwards_known a next known = λ j. record {
    binders = binders_same a known.binders j;
    buffers = buffers_same a known.buffers j;
    claims = makes_same a next j ++ left_same a known.claims j;
    own = makes_same a next j ++ left_same a known.own j;
    updating = known.updating;
  }

  -- ---- windows

  pub stands_same : (i c : ℕ) (all : Statements) (line : ℕ) → stands_alone outline i c all line ≡ stands_alone outline i c (block_rolled all) line
  stands_same i c Empty line = refl
  stands_same i c (Then a rest) line =
      let onward = stands_same i c rest (line + lines a) ∙ (λ j. stands_alone outline i c (block_rolled rest) (line + lines_same a j)) in
      λ j. if is_member c (outline.named (line + lines_same a j - 1)) then not (block_changes_same rest (outline.claim c).buffer j)
      else (not (changes_same a (outline.claim c).buffer j) && (not (gives_same i a j) && onward j))

  kept_same : (i : ℕ) (a : Statement) (line : ℕ) → kept_of outline rules i a line ≡ kept_of outline rules i (rolled a) line
  kept_same i (Seq row) line =
      λ j. filter (λ (w : Window). (w.symbol == i) && (not (is_update (outline.claim w.claim).definition) && stands_same i w.claim row line j)) outline.windows
  kept_same i (For k x kind body) line = refl
  kept_same i (Let k pick forms) line = refl
  kept_same i (First k a c) line = refl
  kept_same i (Guard low high body) line = refl
  kept_same i (Alloc c f places) line = refl
  kept_same i (Fetch c g region) line = refl
  kept_same i (Store c k at e) line = refl
  kept_same i (Publish c) line = refl

all_append : {A : Type 0} (test : A → Bool) (xs ys : List A) → list_all test (xs ++ ys) ≡ (list_all test xs && list_all test ys)
all_append test [] ys = refl
all_append test (x ∷ xs) ys = of (test x) (all_append test xs ys)
  where
    of : (v : Bool) → list_all test (xs ++ ys) ≡ (list_all test xs && list_all test ys) → (v && list_all test (xs ++ ys)) ≡ ((v && list_all test xs) && list_all test ys)
    of true e = e
    of false e = refl

-- two lists that are alike, in part and as a whole
both_alike : {A : Type 0} (test : A → Bool) (xs ys us vs : List A) → list_all test xs ≡ list_all test us → list_all test ys ≡ list_all test vs → list_all test (xs ++ ys) ≡ list_all test (us ++ vs)
both_alike test xs ys us vs e f = all_append test xs ys ∙ (λ j. e j && f j) ∙ sym (all_append test us vs)

-- ---- what is owed

module _ (outline : Outline) (rules : Rules) (domain : List ℕ → ℕ → Option (List Range)) where
  abbrev tests : Nests
  tests = slid_nests outline rules domain

  abbrev are_shown : List Obligation → Bool
  are_shown os = all_shown rules tests os

  making_same : (o : Option Window) (known : Known) (a : Statement) (c : ℕ) →
      are_shown (making_obligations outline rules o known a c) ≡ are_shown (making_obligations outline rules o known (rolled a) c)
  making_same None known a c = of (places_of known.buffers (outline.claim c).buffer)
    where
      of : (o : Option (List Places)) →
          (shows rules tests known.binders (made outline rules o c a) && true) ≡ (shows rules tests known.binders (made outline rules o c (rolled a)) && true)
      of None = refl
      of (Some places) =
          (λ j. tests.is_made known.binders c (if updates_same outline.setting (outline.claim c).buffer (outline.claim c).function a j then Some ((outline.claim c).definition - 1) else None) places a && true)
          ∙ (λ j. (tests_stay outline rules domain a).made known.binders c (goes_on outline rules (rolled a) c) places j && true)
  making_same (Some w) known a c = of (places_of known.buffers (outline.claim c).buffer)
    where
      of : (o : Option (List Places)) →
          (shows rules tests known.binders (slid outline rules o w c a) && (shows rules tests known.binders (held outline rules o w known.binders c a) && true))
          ≡ (shows rules tests known.binders (slid outline rules o w c (rolled a)) && (shows rules tests known.binders (held outline rules o w known.binders c (rolled a)) && true))
      of None = refl
      of (Some places) =
          let t = tests_stay outline rules domain a in
          λ j. t.slid known.binders w c places j && ((t.slid known.binders w c places j && t.held known.binders w c places j) && true)

  earlier_same : (begin line : ℕ) (known : Known) (a : Statement) (c : ℕ) →
      are_shown (earlier_obligations outline rules begin line known a c) ≡ are_shown (earlier_obligations outline rules begin line known (rolled a) c)
  earlier_same begin line known a c =
      (λ j. are_shown (if updates_same outline.setting (outline.claim c).buffer (outline.claim c).function a j then owed a else []))
      ∙ of (updates outline.setting (rolled a) (outline.claim c).buffer (outline.claim c).function)
    where
      owed : Statement → List Obligation
      owed b =
          obligation outline rules NotMade (rules.claim_line c) known (Named (list_any (λ d. follows outline rules d c) known.own))
          ∷ obligation outline rules (turn_code (turn_line outline rules b begin c)) (or_same (turn_line outline rules b begin c) (rules.claim_line c)) known (InTurn c b)
          ∷ map (λ d. obligation outline rules NotMade (rules.claim_line c) known (Inside (region_of outline rules c) (region_of outline rules d))) (filter (λ d. follows outline rules d c) known.own)

      of : (v : Bool) → are_shown (if v then owed a else []) ≡ are_shown (if v then owed (rolled a) else [])
      of true =
          λ j. list_any (λ d. follows outline rules d c) known.own && ((tests_stay outline rules domain a).in_turn known.binders c j
          && are_shown (map (λ d. obligation outline rules NotMade (rules.claim_line c) known (Inside (region_of outline rules c) (region_of outline rules d))) (filter (λ d. follows outline rules d c) known.own)))
      of false = refl

  claim_same : (kept : List Window) (begin line : ℕ) (known : Known) (a : Statement) (c : ℕ) →
      are_shown (claim_obligations outline rules kept begin line known a c) ≡ are_shown (claim_obligations outline rules kept begin line known (rolled a) c)
  claim_same kept begin line known a c =
      let more = both_alike (is_shown rules tests) (making_obligations outline rules (window_of kept c) known a c) (earlier_obligations outline rules begin line known a c)
      (making_obligations outline rules (window_of kept c) known (rolled a) c) (earlier_obligations outline rules begin line known (rolled a) c)
      (making_same (window_of kept c) known a c) (earlier_same begin line known a c) in
      λ j. writes_same outline.setting (outline.claim c).buffer (outline.claim c).function a j && more j

  claims_same : (kept : List Window) (begin line : ℕ) (known : Known) (a : Statement) (cs : List ℕ) →
      are_shown (flat_map (claim_obligations outline rules kept begin line known a) cs) ≡ are_shown (flat_map (claim_obligations outline rules kept begin line known (rolled a)) cs)
  claims_same kept begin line known a [] = refl
  claims_same kept begin line known a (c ∷ cs) =
      both_alike (is_shown rules tests) (claim_obligations outline rules kept begin line known a c) (flat_map (claim_obligations outline rules kept begin line known a) cs)
      (claim_obligations outline rules kept begin line known (rolled a) c) (flat_map (claim_obligations outline rules kept begin line known (rolled a)) cs)
      (claim_same kept begin line known a c) (claims_same kept begin line known a cs)

  mutual
    turn_same : (kept : List Window) (a : Statement) (line : ℕ) (known : Known) → are_shown (turn_obligations outline rules kept a line known)
        ≡ are_shown (turn_obligations outline rules kept (rolled a) line known)
    turn_same kept (Seq all) line known = block_same kept all line (in_block outline rules known)
    turn_same kept (For i x kind body) line known =
        let inner = turn_same (kept_of outline rules i body (line + 1)) body (line + 1) (in_loop outline rules i x body known) in
        let moved : are_shown (turn_obligations outline rules (kept_of outline rules i body (line + 1)) (rolled body) (line + 1) (in_loop outline rules i x body known))
        ≡ are_shown (turn_obligations outline rules (kept_of outline rules i (rolled body) (line + 1)) (rolled body) (line + 1) (in_loop outline rules i x (rolled body) known)) =
        λ j. are_shown (turn_obligations outline rules (kept_same outline rules i body (line + 1) j) (rolled body) (line + 1) (loop_known outline rules i x body known j)) in
        let all = inner ∙ moved in
        λ j. not (has_symbol outline rules i x known) && all j
    turn_same kept (Let i pick forms) line known = refl
    turn_same kept (First i a b) line known =
        both_alike (is_shown rules tests) (turn_obligations outline rules [] a (line + 1) (in_block outline rules known)) (turn_obligations outline rules [] b (line + 2 + lines a) (in_block outline rules known))
        (turn_obligations outline rules [] (rolled a) (line + 1) (in_block outline rules known)) (turn_obligations outline rules [] (rolled b) (line + 2 + lines (rolled a)) (in_block outline rules known))
        (turn_same [] a (line + 1) (in_block outline rules known))
        (turn_same [] b (line + 2 + lines a) (in_block outline rules known)
        ∙ (λ j. are_shown (turn_obligations outline rules [] (rolled b) (line + 2 + lines_same a j) (in_block outline rules known))))
    turn_same kept (Guard low high body) line known = turn_same [] body (line + 1) (in_guard outline rules low high known)
    turn_same kept (Alloc b f places) line known = refl
    turn_same kept (Fetch b g region) line known = refl
    turn_same kept (Store b k at e) line known = refl
    turn_same kept (Publish c) line known = refl

    block_same : (kept : List Window) (all : Statements) (line : ℕ) (known : Known) → are_shown (block_obligations outline rules kept all line known)
        ≡ are_shown (block_obligations outline rules kept (block_rolled all) line known)
    block_same kept Empty line known = refl
    block_same kept (Then a rest) line known =
        let next = outline.named (line + lines a - 1) in
        let later = outline.named (line + lines (rolled a) - 1) in
        both_alike (is_shown rules tests) (turn_obligations outline rules [] a line (within outline rules a next known))
        (flat_map (claim_obligations outline rules kept line (line + lines a - 1) known a) next
        ++ block_obligations outline rules (without next kept) rest (line + lines a) (onwards outline rules a next known))
        (turn_obligations outline rules [] (rolled a) line (within outline rules (rolled a) later known))
        (flat_map (claim_obligations outline rules kept line (line + lines (rolled a) - 1) known (rolled a)) later
        ++ block_obligations outline rules (without later kept) (block_rolled rest) (line + lines (rolled a)) (onwards outline rules (rolled a) later known))
        (turn_same [] a line (within outline rules a next known)
        ∙ (λ j. are_shown (turn_obligations outline rules [] (rolled a) line (within_known outline rules a (outline.named (line + lines_same a j - 1)) known j))))
        (both_alike (is_shown rules tests) (flat_map (claim_obligations outline rules kept line (line + lines a - 1) known a) next)
        (block_obligations outline rules (without next kept) rest (line + lines a) (onwards outline rules a next known))
        (flat_map (claim_obligations outline rules kept line (line + lines (rolled a) - 1) known (rolled a)) later)
        (block_obligations outline rules (without later kept) (block_rolled rest) (line + lines (rolled a)) (onwards outline rules (rolled a) later known))
        (claims_same kept line (line + lines a - 1) known a next
        ∙ (λ j. are_shown (flat_map (claim_obligations outline rules kept line (line + lines_same a j - 1) known (rolled a)) (outline.named (line + lines_same a j - 1)))))
        (block_same (without next kept) rest (line + lines a) (onwards outline rules a next known)
        ∙ (λ j. are_shown (block_obligations outline rules (without (outline.named (line + lines_same a j - 1)) kept) (block_rolled rest) (line + lines_same a j) (onwards_known outline rules a (outline.named (line + lines_same a j - 1)) known j)))))

pub shown_stays : ShownStays
shown_stays outline rules domain a line known = turn_same outline rules domain [] a line known
