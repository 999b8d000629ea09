-- Lines without flaws.
use Rattle.std.proofs.Common.{◌≡◌, ℕ, zero, suc, ◌+◌, ◌≤◌, List, [], ◌∷◌, ◌++◌, take, length, Bool, true, false, Option, Some, None, refl, sym, ap, ◌∙◌, subst, arith}
use Rattle.std.specs.Prelude.{◌&&◌, ◌||◌, ◌==◌, ◌^◌, not, nat_le, nat_lt, slice_get, MatchOption}
use Rattle.std.specs.List.{list_all, list_any}
use Rattle.soundness.specs.Outline.Forms.{is_over, are_over, spans_are_over, are_within_limits, spans_are_within_limits, is_listed, grid_symbols}
use Rattle.std.proofs.lemmas.Bool.{false≢true}
use Rattle.std.proofs.lemmas.Bool.Decides.{nat_tests}
use Rattle.lin.specs.Forms.{Form}
use Rattle.lin.specs.declared.form.Multiple.{Multiple}
use Rattle.meaning.specs.Algorithm.{Algorithm}
use Rattle.meaning.specs.Names.{same_name}
use Rattle.meaning.proofs.Cases.{same_name_is}
use Rattle.lin.specs.declared.span.Span1.{Span1}
use Rattle.plan.specs.Plan.{Statement, Seq, For, Let, First, Guard, Alloc, Fetch, Store, Publish, Statements, Empty, Then, Group, Plan}
use Rattle.plan.specs.Lines.{group_line}
use Rattle.plan.specs.Certificate.Certificate.{Claim, Certificate}
use Rattle.plan.specs.Certificate.Cells.{piece_count, own_region}
use Rattle.soundness.specs.Origins.{Outline}
use Rattle.soundness.specs.Given.{claim_or_none, outline_of}
use Rattle.soundness.specs.Obligations.{form_has, span_has}
use Rattle.soundness.proofs.Refines.{and_parts, eq_true}
use Rattle.headline.specs.Numbers.{HaveEnds}
use Rattle.headline.specs.Sound.{publishes, block_publishes, PublishesLast, BlockPublishesLast, binds, block_binds, region_has, IsPublished}
use Rattle.soundness.specs.Outline.Flaws.{line_told, unless}
use Rattle.validation.specs.Groups.Sizes.{more, cell_count, is_extent}
use Rattle.validation.specs.Stored.Sizes.{counted}
use Rattle.validation.specs.Stored.Definitions.{parts_named, has_variables}
use Rattle.validation.specs.declared.stored.lines.GroupLines.{GroupLines}
use Rattle.validation.specs.Stored.Stored.{has_line}
use Rattle.validation.specs.Certificate.Clear.{IsRegion, EachHasOwn}
use Rattle.validation.specs.Groups.Lines.{Here, line_flaws, is_claim_of, is_new, is_one_of, before, after, in_later, in_loop, inside, is_empty, flaws, block_flaws, group_line_flaws, group_flaws, groups_flaws, flaws_of_groups, start}

some_flaw : {A : Type 0} {x : A} {xs : List A} → x ∷ xs ≡ [] → ⊥
some_flaw h = cc

-- a line without a flaw passes all tests
pub record IsFine (named within defined limited : Bool) : Type 0 where
  pub names : named ≡ true
  pub forms : within ≡ true
  pub definition : defined ≡ true
  pub limits : limited ≡ true

pub fine : (line : ℕ) (n w d m : Bool) → line_flaws line n w d m ≡ [] → IsFine n w d m
fine line true true true true h = record { names = refl; forms = refl; definition = refl; limits = refl }
fine line true true true false h = absurd (some_flaw h)
fine line true true false m h = absurd (some_flaw h)
fine line true false d m h = absurd (some_flaw h)
fine line false w d m h = absurd (some_flaw h)

-- nor does a line of a loop
pub fine_loop : (line : ℕ) (n w v m : Bool) → (unless n 2 line ++ (unless w 3 line ++ (unless v 13 line ++ unless m 14 line))) ≡ [] → IsFine n w v m
fine_loop line true true true true h = record { names = refl; forms = refl; definition = refl; limits = refl }
fine_loop line true true true false h = absurd (some_flaw h)
fine_loop line true true false m h = absurd (some_flaw h)
fine_loop line true false v m h = absurd (some_flaw h)
fine_loop line false w v m h = absurd (some_flaw h)

pub none_in : {A : Type 0} (xs ys : List A) → xs ++ ys ≡ [] → (xs ≡ []) × (ys ≡ [])
none_in [] ys h = (refl, h)
none_in (x ∷ xs) ys h = absurd (some_flaw h)

and_false : (b c : Bool) → b ≡ false → (b && c) ≡ false
and_false b c h = ap (λ x. x && c) h

and_false_right : (b : Bool) → (b && false) ≡ false
and_false_right true = refl
and_false_right false = refl

or_false : (b : Bool) → (b || false) ≡ b
or_false true = refl
or_false false = refl

not_both : {b : Bool} → b ≡ false → b ≡ true → ⊥
not_both f t = false≢true (sym f ∙ t)

claim_is : (lines : GroupLines) (o : Option Claim) (name : List ℕ) → is_claim_of lines o name ≡ true → (claim_or_none o).function ≡ name
claim_is lines None name h = absurd (false≢true h)
claim_is lines (Some c) name h = same_name_is c.function name (and_parts (has_line lines c.line) (same_name c.function name) h).1

either : (b d : Bool) (P : Type 0) → (b || d) ≡ true → (b ≡ true → P) → (d ≡ true → P) → P
either true d P h f g = f refl
either false d P h f g = g h

one_more : (i j : ℕ) (xs : List ℕ) → is_one_of xs i ≡ true → is_one_of (xs ++ j ∷ []) i ≡ true
one_more i j [] h = absurd (false≢true h)
one_more i j (x ∷ xs) h = by (x == i) h (λ k. one_more i j xs k)
  where
    by : (v : Bool) → (v || is_one_of xs i) ≡ true → (is_one_of xs i ≡ true → is_one_of (xs ++ j ∷ []) i ≡ true) → (v || is_one_of (xs ++ j ∷ []) i) ≡ true
    by true k f = refl
    by false k f = f k

module _ (a : Algorithm) (p : Plan) (c : Certificate) (g : Group) (o : Outline) where
  -- a line that is not the group's last does not publish
  mutual
    pub not_last : (s : Statement) (here : Here) → here.last ≡ false → flaws a p c g o s here ≡ [] → publishes s ≡ false
    not_last (Seq all) here l h = block_not_last all here l h
    not_last (For i x kind body) here l h = not_last body (in_loop i here) refl (none_in _ _ h).1
    not_last (Let i pick ls) here l h = refl
    not_last (First i s t) here l h =
        let k = none_in _ _ (none_in _ _ h).1 in
        let first = not_last s (inside here) refl k.0 in
        let others = not_last t (in_later s here) refl k.1 in
        λ j. first j || others j
    not_last (Guard low high body) here l h = not_last body (inside here) refl (none_in _ _ h).1
    not_last (Alloc b f places) here l h = refl
    not_last (Fetch b k region) here l h = refl
    not_last (Store b k at e) here l h = refl
    not_last (Publish k) here l h = absurd (not_both l (fine here.line (is_claim_of here.group (slice_get c.claims k) g.function) true true here.last h).limits)

    pub block_not_last : (s : Statements) (here : Here) → here.last ≡ false → block_flaws a p c g o s here ≡ [] → block_publishes s ≡ false
    block_not_last Empty here l h = refl
    block_not_last (Then s rest) here l h =
        let k = none_in _ _ h in
        let first = not_last s (before (is_empty rest) here) (and_false here.last (is_empty rest) l) k.0 in
        let others = block_not_last rest (after s here) l k.1 in
        λ i. first i || others i

  abbrev P : ℕ → Type 0
  P k = (claim_or_none (slice_get c.claims k)).function ≡ g.function

  -- the last publishes, if one does
  mutual
    pub last_is : (s : Statement) (here : Here) → flaws a p c g o s here ≡ [] → publishes s ≡ true → PublishesLast P s
    last_is (Seq all) here h t = block_last_is all here h t
    last_is (For i x kind body) here h t = absurd (not_both (not_last body (in_loop i here) refl (none_in _ _ h).1) t)
    last_is (Let i pick ls) here h t = absurd (false≢true t)
    last_is (First i s r) here h t =
        let k = none_in _ _ (none_in _ _ h).1 in
        let first = not_last s (inside here) refl k.0 in
        let others = not_last r (in_later s here) refl k.1 in
        let none : (publishes s || publishes r) ≡ false = λ j. first j || others j in
        absurd (not_both none t)
    last_is (Guard low high body) here h t = absurd (not_both (not_last body (inside here) refl (none_in _ _ h).1) t)
    last_is (Alloc b f places) here h t = absurd (false≢true t)
    last_is (Fetch b k region) here h t = absurd (false≢true t)
    last_is (Store b k at e) here h t = absurd (false≢true t)
    last_is (Publish k) here h t = claim_is here.group (slice_get c.claims k) g.function (fine here.line (is_claim_of here.group (slice_get c.claims k) g.function) true true here.last h).names

    pub block_last_is : (s : Statements) (here : Here) → block_flaws a p c g o s here ≡ [] → block_publishes s ≡ true → BlockPublishesLast P s
    block_last_is Empty here h t = absurd (false≢true t)
    block_last_is (Then s Empty) here h t = last_is s (before true here) (none_in _ _ h).0 (sym (or_false (publishes s)) ∙ t)
    block_last_is (Then s (Then r rest)) here h t =
        let k = none_in _ _ h in
        let first = not_last s (before false here) (and_false_right here.last) k.0 in
        (first, block_last_is (Then r rest) (after s here) k.1 (sym (ap (λ b. b || block_publishes (Then r rest)) first) ∙ t))

  -- a line outside of loops, arms and guards binds no symbol of those in scope where its group begins
  abbrev Stay : List ℕ → Here → Type 0
  Stay outer here = (i : ℕ) → is_one_of outer i ≡ true → is_one_of here.symbols i ≡ true

  new_is_none : (outer : List ℕ) (here : Here) → Stay outer here → (i : ℕ) → is_new here.symbols i ≡ true → (v : Bool) → is_one_of outer i ≡ v → v ≡ false
  new_is_none outer here stay i new false e = refl
  new_is_none outer here stay i new true e = let k : is_new here.symbols i ≡ false = ap not (stay i e) in absurd (not_both k new)

  stay_one : (outer : List ℕ) (s : Statement) (here : Here) → Stay outer here → Stay outer (after s here)
  stay_one outer (Let j pick ls) here stay i e = one_more i j here.symbols (stay i e)
  stay_one outer (Seq all) here stay i e = stay i e
  stay_one outer (For j x kind body) here stay i e = stay i e
  stay_one outer (First j s r) here stay i e = stay i e
  stay_one outer (Guard low high body) here stay i e = stay i e
  stay_one outer (Alloc b f places) here stay i e = stay i e
  stay_one outer (Fetch b k region) here stay i e = stay i e
  stay_one outer (Store b k at x) here stay i e = stay i e
  stay_one outer (Publish k) here stay i e = stay i e

  mutual
    pub bound_is_new : (outer : List ℕ) (s : Statement) (here : Here) → Stay outer here → flaws a p c g o s here ≡ [] → (i : ℕ) → binds s i ≡ true → is_one_of outer i ≡ false
    bound_is_new outer (Seq all) here stay h i t = block_bound_is_new outer all here stay h i t
    bound_is_new outer (For j x kind body) here stay h i t = absurd (false≢true t)
    bound_is_new outer (Let j pick ls) here stay h i t =
        let names = (fine here.line (is_new here.symbols j && are_over here.symbols ls) (are_within_limits ls) true (is_listed ls && nat_lt here.bound 256) h).names in
        let new = (and_parts (is_new here.symbols j) (are_over here.symbols ls) names).0 in
        new_is_none outer here stay i (subst (λ n. is_new here.symbols n ≡ true) (eq_true j i t) new) (is_one_of outer i) refl
    bound_is_new outer (First j s r) here stay h i t = absurd (false≢true t)
    bound_is_new outer (Guard low high body) here stay h i t = absurd (false≢true t)
    bound_is_new outer (Alloc b f places) here stay h i t = absurd (false≢true t)
    bound_is_new outer (Fetch b k region) here stay h i t = absurd (false≢true t)
    bound_is_new outer (Store b k at e) here stay h i t = absurd (false≢true t)
    bound_is_new outer (Publish k) here stay h i t = absurd (false≢true t)

    block_bound_is_new : (outer : List ℕ) (s : Statements) (here : Here) → Stay outer here → block_flaws a p c g o s here ≡ [] → (i : ℕ) → block_binds s i ≡ true → is_one_of outer i ≡ false
    block_bound_is_new outer Empty here stay h i t = absurd (false≢true t)
    block_bound_is_new outer (Then s rest) here stay h i t =
        let k = none_in _ _ h in
        either (binds s i) (block_binds rest i) (is_one_of outer i ≡ false) t
        (λ first. bound_is_new outer s (before (is_empty rest) here) stay k.0 i first)
        (λ later. block_bound_is_new outer rest (after s here) (stay_one outer s here stay) k.1 i later)

-- ---- symbols that stand nowhere in a region

module _ (symbols : List ℕ) (i : ℕ) (new : is_one_of symbols i ≡ false) where
  other_symbol : (j : ℕ) (v : Bool) → (j == i) ≡ v → is_one_of symbols j ≡ true → v ≡ false
  other_symbol j false e m = refl
  other_symbol j true e m = absurd (not_both new (subst (λ n. is_one_of symbols n ≡ true) (eq_true j i e) m))

  terms_free : (ts : List Multiple) → list_all (λ t. is_one_of symbols t.symbol) ts ≡ true → list_any (λ t. t.symbol == i) ts ≡ false
  terms_free [] h = refl
  terms_free (t ∷ ts) h =
      let k = and_parts (is_one_of symbols t.symbol) (list_all (λ u. is_one_of symbols u.symbol) ts) h in
      let first = other_symbol t.symbol (t.symbol == i) refl k.0 in
      let others = terms_free ts k.1 in
      λ j. first j || others j

  forms_free : (fs : List Form) → are_over symbols fs ≡ true → list_any (form_has i) fs ≡ false
  forms_free [] h = refl
  forms_free (f ∷ fs) h =
      let k = and_parts (is_over symbols f) (are_over symbols fs) h in
      let first = terms_free f.terms k.0 in
      let others = forms_free fs k.1 in
      λ j. first j || others j

  spans_free : (xs : List Span1) → spans_are_over symbols xs ≡ true → list_any (span_has i) xs ≡ false
  spans_free [] h = refl
  spans_free (x ∷ xs) h =
      let k = and_parts (are_over symbols x.lower && are_over symbols x.upper) (spans_are_over symbols xs) h in
      let ends = and_parts (are_over symbols x.lower) (are_over symbols x.upper) k.0 in
      let low = forms_free x.lower ends.0 in
      let high = forms_free x.upper ends.1 in
      let others = spans_free xs k.1 in
      λ j. (low j || high j) || others j

own_is_free : (count grid : ℕ) (own : Option (List Span1)) (i : ℕ) → MatchOption own ⊥ (IsRegion count grid) → is_one_of (grid_symbols grid) i ≡ false → region_has own i ≡ false
own_is_free count grid None i h new = refl
own_is_free count grid (Some xs) i h new = spans_free (grid_symbols grid) i new xs h.symbols

-- ---- regions and groups

one_or_more : (xs : List Form) → is_listed xs ≡ true → 1 ≤ length xs
one_or_more xs h = let e : nat_le 1 (length xs) ≡ true = (and_parts (nat_le 1 (length xs)) (nat_le (length xs) 4) h).0 in grind (arith, nat_tests, e)

pub ends_are : (xs : List Span1) → list_all is_extent xs ≡ true → HaveEnds xs
ends_are [] h = tt
ends_are (x ∷ xs) h =
    let k = and_parts (is_extent x) (list_all is_extent xs) h in
    let low = and_parts (is_listed x.lower) _ k.0 in
    let high = and_parts (is_listed x.upper) _ low.1 in
    (record { lower = one_or_more x.lower low.0; upper = one_or_more x.upper high.0 }, ends_are xs k.1)

module _ (a : Algorithm) (p : Plan) (c : Certificate) where
  -- what a group without flaws has
  pub record GroupIsFine (n : ℕ) (g : Group) : Type 0 where
    pub line : ℕ
    pub cells : ℕ
    pub pieces : ℕ
    pub none : group_flaws a p c line n g cells pieces ≡ []

  fine_from : (gs : List Group) (m cells pieces n : ℕ) (g : Group) → groups_flaws a p c gs m cells pieces ≡ [] → slice_get gs n ≡ Some g → GroupIsFine (m + n) g
  fine_from [] m cells pieces n g h at = absurd (cc)
  fine_from (x ∷ xs) m cells pieces zero g h at =
      let same : x ≡ g = cc in
      let e : m ≡ m + 0 = omega arith in
      let k = more cells (cell_count x.region) in
      let j = more pieces (counted (piece_count x.grid)) in
      let l = line_told (group_line p m) in
      subst (λ k. GroupIsFine k g) e (subst (GroupIsFine m) same (record { line = l; cells = k; pieces = j; none = (none_in (group_flaws a p c l m x k j) (groups_flaws a p c xs (m + 1) k j) h).0 }))
  fine_from (x ∷ xs) m cells pieces (suc n) g h at =
      let e : m + 1 + n ≡ m + suc n = omega arith in
      let k = more cells (cell_count x.region) in
      let j = more pieces (counted (piece_count x.grid)) in
      let l = line_told (group_line p m) in
      subst (λ k. GroupIsFine k g) e (fine_from xs (m + 1) k j n g (none_in (group_flaws a p c l m x k j) (groups_flaws a p c xs (m + 1) k j) h).1 at)

  pub group_fine : flaws_of_groups a p c ≡ [] → (n : ℕ) (g : Group) → slice_get p.groups n ≡ Some g → GroupIsFine n g
  group_fine h n g at = let e : 0 + n ≡ n = omega arith in subst (λ k. GroupIsFine k g) e (fine_from p.groups 0 0 0 n g h at)

  -- its body has none
  pub body_fine : (n : ℕ) (g : Group) (f : GroupIsFine n g) → flaws a p c g (outline_of p c n g) g.body (start f.line g) ≡ []
  body_fine n g f = (none_in (group_line_flaws a f.line (take n p.groups) g f.cells f.pieces) (flaws a p c g (outline_of p c n g) g.body (start f.line g)) f.none).1

  pub published : flaws_of_groups a p c ≡ [] → EachHasOwn p c → (n : ℕ) (g : Group) → slice_get p.groups n ≡ Some g → IsPublished p c n g
  published h owned n g at =
      let f = group_fine h n g at in
      let k = none_in (group_line_flaws a f.line (take n p.groups) g f.cells f.pieces) (flaws a p c g (outline_of p c n g) g.body (start f.line g)) f.none in
      let last = publishes g.body && nat_le (length g.grid) 256 in
      let few = nat_le f.cells (2 ^ 24) && (nat_le f.pieces (2 ^ 20) && last) in
      let limits = (fine f.line
      (not (list_any (λ h. same_name h.function g.function) (take n p.groups)) && (has_variables (parts_named a g.function) (length g.region) && spans_are_over [] g.region))
      (spans_are_within_limits g.region) true (list_all is_extent g.region && few) k.0).limits in
      let one = and_parts (list_all is_extent g.region) few limits in
      let two = and_parts (nat_le f.cells (2 ^ 24)) (nat_le f.pieces (2 ^ 20) && last) one.1 in
      let three = and_parts (nat_le f.pieces (2 ^ 20)) last two.1 in
      let four = and_parts (publishes g.body) (nat_le (length g.grid) 256) three.1 in
      record {
        ends = ends_are g.region one.0;
        last = last_is a p c g (outline_of p c n g) g.body (start f.line g) k.1 four.0;
        apart = λ i b. own_is_free (length g.region) (length g.grid) (own_region c.own n) i (owned n g at)
            (bound_is_new a p c g (outline_of p c n g) (grid_symbols (length g.grid)) g.body (start f.line g) (λ j e. e) k.1 i b);
      }
