-- Each refusal that is right of a plan of which limits alone are told is one.
use Rattle.std.proofs.Common.{◌≡◌, ℕ, zero, suc, ◌+◌, ◌<◌, ◌≤◌, Bool, true, false, ◌||◌, List, [], ◌∷◌, take, Option, Some, None, refl, sym, ap, ◌∙◌, subst, inl, inr, ◌⊎◌, arith}
use Rattle.std.specs.Prelude.{◌==◌, if◌then◌else◌, filter, nat_lt, slice_get}
use Rattle.std.proofs.lemmas.Bool.Decides.{nat_tests}
use Rattle.std.specs.List.{AllByRecursion, list_all}
use Rattle.meaning.specs.Algorithm.{Algorithm}
use Rattle.plan.specs.Plan.{Group, Plan, Statement, Seq, For, Let, First, Guard, Alloc, Fetch, Store, Publish, Statements, Empty, Then}
use Rattle.plan.specs.Lines.{lines, groups_lines, group_line, body_line}
use Rattle.plan.specs.View.{plan_of}
use Rattle.plan.specs.Certificate.Certificate.{Certificate, certificate_of}
use Rattle.soundness.specs.Given.{outline_of}
use Rattle.soundness.specs.Obligations.{Rules, Obligation, is_member, obligations}
use Rattle.soundness.specs.Nests.Laws.{domains_of}
use Rattle.soundness.specs.Binders.View.{grid_binders}
use Rattle.tails.specs.Windows.Nests.{slid_nests}
use Rattle.rules.specs.Bounding.Rules.{rules_of}
use Rattle.rules.specs.Widths.Widths.{wide_lines}
use Rattle.soundness.specs.Shown.{Nests, is_shown, first_fault, all_shown, start}
use Rattle.soundness.specs.Outline.Flaws.{Flaw, first_of, line_told, told as told_flaw}
use Rattle.soundness.specs.Outline.Refusals.Codes.{number_of}
use Rattle.soundness.proofs.Refines.{and_parts, eq_true}
use Rattle.obligations.specs.Asked.{is_asked, flaw_of, told as told_obligation, first_unmet}
use Rattle.obligations.specs.declared.context.judge.Part.{Part}
use Rattle.audit.specs.Verdict.Faults.{IsFault, IsOfDebt}
use Rattle.audit.specs.Verdict.Left.{leaves, stores_at, some_stores_at}
use Rattle.validation.specs.Groups.Lines.{on}
use Rattle.completeness.specs.Laws.{AreLinesTold}
use Rattle.completeness.proofs.TakenSites.{Has}
use Rattle.completeness.proofs.WideLines.{wide_first, wide_within}
use Rattle.completeness.specs.Told.{TellsOnlyLimits, FaultsAreLimits}
use Rattle.completeness.specs.Filled.{IsShownElsewhere, stores_to, some_stores_to}
use Rattle.completeness.proofs.LimitsAlone.{limits_alone}

-- ---- what is owed

filtered_none : (rules : Rules) (nests : Nests) (asked : Obligation → Bool) (os : List Obligation) → all_shown rules nests os ≡ true → first_fault rules nests (filter asked os) ≡ None
filtered_none rules nests asked [] h = refl
filtered_none rules nests asked (o ∷ os) h =
    let parts = and_parts (is_shown rules nests o) (all_shown rules nests os) h in
    of (asked o) parts.0 (filtered_none rules nests asked os parts.1)
  where
    of : (b : Bool) → is_shown rules nests o ≡ true → first_fault rules nests (filter asked os) ≡ None → first_fault rules nests (if b then o ∷ filter asked os else filter asked os) ≡ None
    of true here rest = ap (λ (v : Bool). if v then first_fault rules nests (filter asked os) else Some o) here ∙ rest
    of false here rest = rest

-- where all is shown nothing is told of what is owed
unmet_none : (rules : Rules) (nests : Nests) (part : Part) (os : List Obligation) → all_shown rules nests os ≡ true → first_unmet rules nests part os ≡ None
unfolding first_unmet
unmet_none rules nests part os h = ap told_obligation (filtered_none rules nests (λ o. is_asked part (flaw_of o)) os h)

none_told : (rules : Rules) (nests : Nests) (part : Part) (os : List Obligation) (f : Flaw) → all_shown rules nests os ≡ true → told_flaw (first_unmet rules nests part os) ≡ Some f → ⊥
none_told rules nests part os f h e = no (sym (ap told_flaw (unmet_none rules nests part os h)) ∙ e)
  where
    no : None ≡ Some f → ⊥
    no q = cc

-- the first that is not shown is one of them, and is asked
first_unshown : (rules : Rules) (nests : Nests) (asked : Obligation → Bool) (met : Obligation → Bool) (os : List Obligation) (x : Obligation) →
    list_all (λ o. is_shown rules nests o || met o) os ≡ true → first_fault rules nests (filter asked os) ≡ Some x → met x ≡ true
first_unshown rules nests asked met [] x h e = absurd (cc e)
first_unshown rules nests asked met (o ∷ os) x h e =
    let parts = and_parts (is_shown rules nests o || met o) (list_all (λ o. is_shown rules nests o || met o) os) h in
    of (asked o) e (λ q. first_unshown rules nests asked met os x parts.1 q) parts.0
  where
    by : (v : Bool) → (v || met o) ≡ true → (if v then first_fault rules nests (filter asked os) else Some o) ≡ Some x → (first_fault rules nests (filter asked os) ≡ Some x → met x ≡ true) →
        met x ≡ true
    by true here q rest = rest q
    by false here q rest = (let is : o ≡ x = cc q in ap met (sym is) ∙ here)

    of : (b : Bool) → first_fault rules nests (if b then o ∷ filter asked os else filter asked os) ≡ Some x → (first_fault rules nests (filter asked os) ≡ Some x → met x ≡ true) →
        (is_shown rules nests o || met o) ≡ true → met x ≡ true
    of true q rest here = by (is_shown rules nests o) here q rest
    of false q rest here = rest q

-- so a flaw that is told of what is owed is told of an obligation that is met otherwise
unmet_at : (rules : Rules) (nests : Nests) (part : Part) (met : Obligation → Bool) (os : List Obligation) (f : Flaw) → list_all (λ o. is_shown rules nests o || met o) os ≡ true →
    told_flaw (first_unmet rules nests part os) ≡ Some f → (o : Obligation) × (met o ≡ true) × (f.line ≡ line_told o.line)
unfolding first_unmet
unmet_at rules nests part met os f h e = of (first_fault rules nests (filter (λ o. is_asked part (flaw_of o)) os)) refl e
  where
    of : (o : Option Obligation) → first_fault rules nests (filter (λ o. is_asked part (flaw_of o)) os) ≡ o → told_flaw (told_obligation o) ≡ Some f →
        (o : Obligation) × (met o ≡ true) × (f.line ≡ line_told o.line)
    of None q k = absurd (cc k)
    of (Some o) q k =
        let is : record { code = number_of (flaw_of o).code; line = (flaw_of o).line } ≡ f = cc k in
        (o, first_unshown rules nests (λ o. is_asked part (flaw_of o)) met os o h q, ap (λ (y : Flaw). y.line) (sym is))

member_has : (n : ℕ) (ns : List ℕ) → is_member n ns ≡ true → Has n ns
member_has n [] h = absurd (cc h)
member_has n (m ∷ ns) h = of (m == n) refl h (λ q. member_has n ns q)
  where
    of : (b : Bool) → (m == n) ≡ b → (b || is_member n ns) ≡ true → (is_member n ns ≡ true → Has n ns) → (n ≡ m) ⊎ Has n ns
    of true e q rest = inl (sym (eq_true m n e))
    of false e q rest = inr (rest q)

-- ---- lines of groups

take_more : (gs : List Group) (k j : ℕ) → k ≤ j → groups_lines (take k gs) ≤ groups_lines (take j gs)
take_more [] zero j le = omega arith
take_more [] (suc k) zero le = absurd (omega (arith, le))
take_more [] (suc k) (suc j) le = omega arith
take_more (g ∷ gs) zero j le = omega arith
take_more (g ∷ gs) (suc k) zero le = absurd (omega (arith, le))
take_more (g ∷ gs) (suc k) (suc j) le = (let rest = take_more gs k j (omega (arith, le)) in omega (arith, rest))

take_all : (gs : List Group) (k : ℕ) → groups_lines (take k gs) ≤ groups_lines gs
take_all [] zero = omega arith
take_all [] (suc k) = omega arith
take_all (g ∷ gs) zero = omega arith
take_all (g ∷ gs) (suc k) = (let rest = take_all gs k in omega (arith, rest))

take_next : (gs : List Group) (n : ℕ) (g : Group) → slice_get gs n ≡ Some g → groups_lines (take (n + 1) gs) ≡ groups_lines (take n gs) + (lines g.body + 1)
take_next [] n g at = absurd (cc at)
take_next (h ∷ gs) zero g at =
    let is : h ≡ g = cc at in
    let size : lines h.body ≡ lines g.body = ap (λ (y : Group). lines y.body) is in
    omega (arith, size)
take_next (h ∷ gs) (suc n) g at =
    let rest = take_next gs n g at in
    let step : suc n + 1 ≡ suc (n + 1) = omega arith in
    let is : groups_lines (take (suc n + 1) (h ∷ gs)) ≡ groups_lines (take (suc (n + 1)) (h ∷ gs)) = ap (λ (k : ℕ). groups_lines (take k (h ∷ gs))) step in
    omega (arith, rest, is)

-- where each line can be told, a line that is told of two groups is of one
one_group : (p : Plan) → AreLinesTold p → (m n i : ℕ) (g : Group) → slice_get p.groups n ≡ Some g → body_line p n ≤ i → i < body_line p n + lines g.body →
    line_told (body_line p m) ≤ line_told i → line_told i < line_told (group_line p (m + 1)) → m ≡ n
one_group p told m n i g at from to low high = of (nat_lt m n) refl (nat_lt n m) refl
  where
    next : groups_lines (take (n + 1) p.groups) ≡ groups_lines (take n p.groups) + (lines g.body + 1)
    next = take_next p.groups n g at

    all_m : groups_lines (take m p.groups) ≤ groups_lines p.groups
    all_m = take_all p.groups m

    all_n : groups_lines (take (n + 1) p.groups) ≤ groups_lines p.groups
    all_n = take_all p.groups (n + 1)

    all_next : groups_lines (take (m + 1) p.groups) ≤ groups_lines p.groups
    all_next = take_all p.groups (m + 1)

    of : (a : Bool) → nat_lt m n ≡ a → (b : Bool) → nat_lt n m ≡ b → m ≡ n
    of true e b q =
        let more = take_more p.groups (m + 1) n (grind (arith, nat_tests, e)) in
        absurd (omega (arith, more, next, all_n, all_next, told, from, to, high))
    of false e true q =
        let more = take_more p.groups (n + 1) m (grind (arith, nat_tests, q)) in
        absurd (omega (arith, more, next, all_m, all_n, told, from, to, low))
    of false e false q = grind (arith, nat_tests, e, q)

-- ---- each kind of fault

first_limit : (fs : List Flaw) (f : Flaw) → AllByRecursion (λ (x : Flaw). x.code ≡ 14) fs → first_of fs ≡ Some f → f.code ≡ 14
first_limit [] f h e = absurd (cc e)
first_limit (x ∷ fs) f h e = code_of (first_of (x ∷ fs)) refl
  where
    code_of : (o : Option Flaw) → first_of (x ∷ fs) ≡ o → f.code ≡ 14
    code_of o q = (let is : x.code ≡ f.code = cc e in sym is ∙ h.0)

-- what stands at a line stands in the group
either : (b c d e : Bool) → (b ≡ true → d ≡ true) → (c ≡ true → e ≡ true) → (b || c) ≡ true → (d || e) ≡ true
either true c d e one two h = (let is = one refl in ap (λ v. v || e) is)
either false c true e one two h = refl
either false c false e one two h = two h

module _ (b k line : ℕ) where
  mutual
    stored_somewhere : (s : Statement) (begun : ℕ) → stores_at b k line begun s ≡ true → stores_to b s ≡ true
    stored_somewhere (Seq all) begun h = stored_among all begun h
    stored_somewhere (For i x kind body) begun h = stored_somewhere body (on begun 1) h
    stored_somewhere (Let i pick forms) begun h = absurd (cc h)
    stored_somewhere (First i x y) begun h =
        either (stores_at b k line (on begun 1) x) (stores_at b k line (on begun (lines x + 2)) y) (stores_to b x) (stores_to b y)
        (stored_somewhere x (on begun 1)) (stored_somewhere y (on begun (lines x + 2))) h
    stored_somewhere (Guard low high body) begun h = stored_somewhere body (on begun 1) h
    stored_somewhere (Alloc m f places) begun h = absurd (cc h)
    stored_somewhere (Fetch m g region) begun h = absurd (cc h)
    stored_somewhere (Store m n at e) begun h = (and_parts (m == b) _ (and_parts (begun == line) _ h).1).0
    stored_somewhere (Publish c) begun h = absurd (cc h)

    stored_among : (all : Statements) (begun : ℕ) → some_stores_at b k line begun all ≡ true → some_stores_to b all ≡ true
    stored_among Empty begun h = absurd (cc h)
    stored_among (Then s rest) begun h =
        either (stores_at b k line begun s) (some_stores_at b k line (on begun (lines s)) rest) (stores_to b s) (some_stores_to b rest)
        (stored_somewhere s begun) (stored_among rest (on begun (lines s))) h

module _ (a : Algorithm) (p : Plan) (c : Certificate) (t : TellsOnlyLimits a p c) (code line : ℕ) where
  -- what a line owes where a number may be too large is not told
  hidden : (d : IsOfDebt a p c code line) → IsShownElsewhere a p c d.number d.group → ⊥
  hidden d s =
      let wide = wide_lines (rules_of a p c d.number) (grid_binders d.group.grid) (body_line p d.number) d.group.body in
      let o = unmet_at (rules_of a p c d.number) (slid_nests (outline_of p c d.number d.group) (rules_of a p c d.number) (domains_of a)) d.part (λ o. is_member o.line wide)
      (obligations (outline_of p c d.number d.group) (rules_of a p c d.number) d.group.body (body_line p d.number) (start (grid_binders d.group.grid)))
      (record { code = code; line = line }) s.shown d.first in
      let has = member_has o.0.line wide o.1 in
      let first = wide_first (rules_of a p c d.number) (grid_binders d.group.grid) (body_line p d.number) d.group.body o.0.line has in
      let inside = wide_within (rules_of a p c d.number) (grid_binders d.group.grid) (body_line p d.number) d.group.body o.0.line has in
      let here : line ≡ line_told o.0.line = o.2 in
      elim d.before [
        | inl narrow ↦ (let less = narrow d.number d.group d.stands first.0 first.1 in let low = first.2 in absurd (omega (arith, less, low, here)))
        | inr (four, left) ↦
            (let from = left.from in
            let to = left.to in
            let same_number : left.number ≡ d.number = one_group p t.lines left.number d.number o.0.line d.group d.stands inside.0 inside.1
            (subst (λ (i : ℕ). line_told (body_line p left.number) ≤ i) here from) (subst (λ (i : ℕ). i < line_told (group_line p (left.number + 1))) here to) in
            let some : Some left.group ≡ Some d.group = sym left.stands ∙ ap (slice_get p.groups) same_number ∙ d.stands in
            let same_group : left.group ≡ d.group = cc some in
            let there = stored_somewhere left.buffer left.coordinates line left.group.body (line_told (body_line p left.number)) left.stores in
            let stores = ap (λ (y : Group). stores_to left.buffer y.body) (sym same_group) ∙ there in
            let leaving = ap (λ (y : Group). leaves left.buffer left.coordinates y.body) (sym same_group) ∙ left.leaves_all in
            let clash : false ≡ true = sym (s.stays left.buffer left.coordinates stores) ∙ leaving in
            absurd (cc clash))
      ]

  limit : IsFault a p c code line → code ≡ 14
  limit (inl h) = absurd (t.head line h.fails)
  limit (inr (inl g)) = t.groups (record { code = code; line = line }) g
  limit (inr (inr (inl w))) = w.code_is
  limit (inr (inr (inr (inl d)))) = elim (t.shown d.number d.group d.stands) [
    | inl shown ↦ absurd (none_told _ _ d.part _ (record { code = code; line = line }) shown d.first)
    | inr elsewhere ↦ absurd (hidden d elsewhere)
  ]
  limit (inr (inr (inr (inr (inl k))))) = first_limit _ (record { code = code; line = line }) t.certificate k
  limit (inr (inr (inr (inr (inr (inl s)))))) = sym s.code_is ∙ ap number_of (t.shares s.flaw s.means)
  limit (inr (inr (inr (inr (inr (inr (inl o))))))) = absurd (o.lacks (λ at within. t.output o.number o.group o.stands o.function at within))
  limit (inr (inr (inr (inr (inr (inr (inr f))))))) = f.code_is

pub faults_limited : FaultsAreLimits
faults_limited a s l well legal small regions groups fills named code line fault =
    limit a (plan_of l.plan) (certificate_of l.certificate) (limits_alone a s l well legal small regions groups fills named) code line fault
