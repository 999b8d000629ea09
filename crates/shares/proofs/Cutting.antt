-- The certificate that is looked at in place of one with a broken line.
use Rattle.std.proofs.Common.{◌≡◌, ℕ, zero, suc, ◌+◌, ◌-◌, ◌^◌, ◌<◌, ◌≤◌, List, [], ◌∷◌, ◌++◌, length, map, min, take, get_or, Bool, true, false, cond, arith, ap, refl, sym, ◌∙◌, subst, Option, Some, None, inl, inr}
use Rattle.std.specs.Prelude.{◌==◌, ◌||◌, nat_lt, if◌then◌else◌, All, MatchOption, slice_get, ◌⊎◌}
use Rattle.std.specs.List.{AllByRecursion, range_with_len}
use Rattle.std.proofs.lemmas.Bool.{cases_lt, cases_eq, false≢true}
use Rattle.std.proofs.lemmas.Bool.Decides.{nat_tests}
use Rattle.std.proofs.lemmas.List.Elements.{All-from_recursion}
use Rattle.lin.specs.declared.span.Span1.{Span1}
use Rattle.plan.specs.Plan.{Group, Plan}
use Rattle.plan.specs.View.{group_of}
use Rattle.plan.specs.declared.plan.Group.{Group as CodeGroup}
use Rattle.plan.specs.Lines.{certificate_line}
use Rattle.plan.specs.declared.certificate.cert.Own.{Own}
use Rattle.plan.specs.declared.certificate.cert.Need.{Need}
use Rattle.plan.specs.Certificate.Certificate.{Certificate}
use Rattle.plan.specs.Certificate.Cells.{own_region}
use Rattle.plan.specs.Certificate.Lines.{own_line}
use Rattle.headline.specs.Numbers.{GroupsHaveEnds, group_region}
use Rattle.soundness.specs.Outline.Refusals.Codes.{is_before, number_of}
use Rattle.soundness.specs.declared.outline.refusals.code.Flaw.{Flaw}
use Rattle.soundness.specs.declared.outline.refusals.code.K.{K}
use Rattle.soundness.specs.declared.outline.refusals.code.K.TheVariants.{K1, K2, K3, K4, K5, K6, K7, K8, K9, K10, K11, K12, K13, K14}
use Rattle.soundness.specs.Outline.Flaws.{line_told}
use Rattle.shares.specs.declared.answer.SharesError.TheVariants.{Flaw as Told}
use Rattle.shares.specs.Boxes.{AreLimited}
use Rattle.shares.specs.Before.{AreLikeBefore, IsCut, IsDrawn, LineIsTold, OwnIsBefore, OwnLinesStand, StandsBefore, blank_needs, told_before, whole, wholes}
use Rattle.shares.specs.Counts.{FetchIsRefused}
use Rattle.shares.specs.Made.{ErrorMeans, IsFirstOwn, IsOwnFlaw, LineMeans, LinesStand, OwnCode, need_place, next_place, own_place, owns_line}
use Rattle.shares.specs.Shared.{AreShared, IsLike, NeedIsShared}
use Rattle.shares.proofs.Firsts.{not_before}
use Rattle.shares.proofs.Groups.{get_mapped, get_within}
use Rattle.shares.proofs.Known.{like_some}
use Rattle.shares.proofs.Replaced.{code_on}
use Rattle.shares.proofs.Standing.{own_means}

-- ---- own lines behind the first of others

-- the group has its own line among the first so many
record IsAmong (xs ys : List Own) (k n : ℕ) : Type 0 where
  place : own_place xs n < k
  there : own_place xs n < length xs
  places : own_place (take k xs ++ ys) n ≡ own_place xs n
  regions : own_region (take k xs ++ ys) n ≡ own_region xs n

-- or not, and then it has one behind them
record IsBehind (xs ys : List Own) (k n : ℕ) : Type 0 where
  place : k ≤ own_place xs n
  behind : k ≤ own_place (take k xs ++ ys) n
  regions : own_region (take k xs ++ ys) n ≡ own_region ys n

module _ (x : Own) (xs ys : List Own) (k n : ℕ) where
  here : (x.group == n) ≡ true → IsAmong (x ∷ xs) ys (suc k) n
  here e = record {
    place = (let f : own_place (x ∷ xs) n ≡ 0 = rw e refl in omega (arith, f));
    there = (let f : own_place (x ∷ xs) n ≡ 0 = rw e refl in omega (arith, f));
    places = rw e refl;
    regions = rw e refl;
  }

  later : (x.group == n) ≡ false → IsAmong xs ys k n → IsAmong (x ∷ xs) ys (suc k) n
  later e h = record {
    place = (let f : own_place (x ∷ xs) n ≡ suc (own_place xs n) = rw e refl in let g = h.place in omega (arith, f, g));
    there = (let f : own_place (x ∷ xs) n ≡ suc (own_place xs n) = rw e refl in let g = h.there in omega (arith, f, g));
    places = rw e (ap suc h.places);
    regions = rw e h.regions;
  }

  past : (x.group == n) ≡ false → IsBehind xs ys k n → IsBehind (x ∷ xs) ys (suc k) n
  past e h = record {
    place = (let f : own_place (x ∷ xs) n ≡ suc (own_place xs n) = rw e refl in let g = h.place in omega (arith, f, g));
    behind = (let f : own_place (x ∷ (take k xs ++ ys)) n ≡ suc (own_place (take k xs ++ ys) n) = rw e refl in let g = h.behind in omega (arith, f, g));
    regions = rw e h.regions;
  }

among_or_behind : (xs ys : List Own) (k n : ℕ) → k ≤ length xs → IsAmong xs ys k n ⊎ IsBehind xs ys k n
among_or_behind xs ys zero n less = inr (record { place = omega arith; behind = omega arith; regions = refl })
among_or_behind [] ys (suc k) n less = absurd (omega (arith, less))
among_or_behind (x ∷ xs) ys (suc k) n less = of (x.group == n) refl (among_or_behind xs ys k n (omega (arith, less)))
  where
    of : (b : Bool) → (x.group == n) ≡ b → IsAmong xs ys k n ⊎ IsBehind xs ys k n → IsAmong (x ∷ xs) ys (suc k) n ⊎ IsBehind (x ∷ xs) ys (suc k) n
    of true e rest = inl (here x xs ys k n e)
    of false e rest = elim rest [
      | inl h ↦ inl (later x xs ys k n e h)
      | inr h ↦ inr (past x xs ys k n e h)
    ]

-- a group without an own line has its place behind all
no_region : (xs : List Own) (n : ℕ) → length xs ≤ own_place xs n → own_region xs n ≡ None
no_region [] n most = refl
no_region (x ∷ xs) n most = of (x.group == n) refl (λ rest. no_region xs n rest)
  where
    of : (b : Bool) → (x.group == n) ≡ b → (length xs ≤ own_place xs n → own_region xs n ≡ None) → own_region (x ∷ xs) n ≡ None
    of true e later = absurd (let f : own_place (x ∷ xs) n ≡ 0 = rw e refl in omega (arith, f, most))
    of false e later = rw e (later (let f : own_place (x ∷ xs) n ≡ suc (own_place xs n) = rw e refl in omega (arith, f, most)))

place_most : (xs : List Own) (n : ℕ) → own_place xs n ≤ length xs
place_most [] n = omega arith
place_most (x ∷ xs) n = of (x.group == n) refl (place_most xs n)
  where
    of : (b : Bool) → (x.group == n) ≡ b → own_place xs n ≤ length xs → own_place (x ∷ xs) n ≤ suc (length xs)
    of true e h = let f : own_place (x ∷ xs) n ≡ 0 = rw e refl in omega (arith, f)
    of false e h = let f : own_place (x ∷ xs) n ≡ suc (own_place xs n) = rw e refl in omega (arith, f, h)

-- ---- the whole regions of all groups

whole_region : (gs : List Group) (a m n : ℕ) → a ≤ n → n < a + m → own_region (map (whole gs) (range_with_len a m)) n ≡ Some (group_region (slice_get gs n))
whole_region gs a zero n low high = absurd (omega (arith, low, high))
whole_region gs a (suc m) n low high = elim (cases_eq a n) [
  | inl same ↦ let e : (a == n) ≡ true = grind (arith, nat_tests, same) in rw e (ap (λ (k : ℕ). Some (group_region (slice_get gs k))) same)
  | inr other ↦ let e : (a == n) ≡ false = grind (arith, nat_tests, other) in rw e (whole_region gs (a + 1) m n (omega (arith, low, other)) (omega (arith, high)))
]

-- spans without ends are within the limits
pub none_limited : AreLimited []
none_limited k d less = absurd (omega (arith, less))

-- the one that is made of a group in memory
pub whole_here : (gs : List CodeGroup) (n : ℕ) (g : CodeGroup) (region : List Span1) → n < length gs → g ≡ get_or gs n g → region ≡ g.region → ◌≡◌ {A = Own} (record { group = n; region = region }) (whole (map group_of gs) n)
whole_here gs n g region less is same =
    let at : slice_get (map group_of gs) n ≡ Some (group_of g) = get_mapped group_of gs n g less ∙ ap (λ (x : CodeGroup). Some (group_of x)) (sym is) in
    ap (λ (xs : List Span1). record { group = n; region = xs }) (same ∙ sym (ap group_region at))

-- ---- need lines

needs_placed : (region : List Span1) (ns : List Need) (n : ℕ) → need_place (blank_needs region ns) n ≡ need_place ns n
needs_placed region [] n = refl
needs_placed region (m ∷ ms) n = let h = needs_placed region ms n in ap (λ (o : Option ℕ). if m.group == n then Some 0 else next_place o) h

needs_shared : (p : Plan) (region : List Span1) (ns : List Need) → MatchOption (slice_get p.groups 0) ⊥ (λ g. IsLike region (length g.grid)) → AllByRecursion (NeedIsShared p) (blank_needs region ns)
needs_shared p region [] h = tt
needs_shared p region (n ∷ ns) h = (h, needs_shared p region ns h)

module _ (p : Plan) (c : Certificate) (line : ℕ) (drawn : IsDrawn p) (like : AreLikeBefore p c line) (kept : ℕ) (stands : StandsBefore p c line kept) (d : Certificate)
    (owns : d.own ≡ take kept c.own ++ wholes p.groups) (region : List Span1) (first : MatchOption (slice_get p.groups 0) ⊥ (λ g. IsLike region (length g.grid)))
    (needs : d.needs ≡ blank_needs region c.needs) where
  module _ (n : ℕ) (g : Group) (at : slice_get p.groups n ≡ Some g) where
    both : IsAmong c.own (wholes p.groups) kept n ⊎ IsBehind c.own (wholes p.groups) kept n
    both = among_or_behind c.own (wholes p.groups) kept n stands.some

    given : OwnIsBefore p c line n → own_place c.own n < length c.own
    given before = elim (cases_lt (own_place c.own n) (length c.own)) [
      | inl less ↦ less
      | inr most ↦ (let xs = like_some (own_region c.own n) (λ xs. IsLike xs (length g.region)) (like n g at before) in let e : None ≡ Some xs.0 = sym (no_region c.own n most) ∙ xs.1 in absurd (cc e))
    ]

    among : OwnIsBefore p c line n → IsAmong c.own (wholes p.groups) kept n
    among before = elim both [
      | inl h ↦ h
      | inr h ↦ absurd (let late = stands.after (own_place c.own n) h.place (given before) in omega (arith, before, late))
    ]

    places : OwnIsBefore p c line n → own_place d.own n ≡ own_place c.own n
    places before = ap (λ (os : List Own). own_place os n) owns ∙ (among before).places

    regions : OwnIsBefore p c line n → own_region d.own n ≡ own_region c.own n
    regions before = ap (λ (os : List Own). own_region os n) owns ∙ (among before).regions

    behind : ¬ OwnIsBefore p c line n → IsBehind c.own (wholes p.groups) kept n
    behind not = elim both [
      | inl h ↦ absurd (not (stands.before (own_place c.own n) h.place))
      | inr h ↦ h
    ]

    others : ¬ OwnIsBefore p c line n → ¬ OwnIsBefore p d line n
    others not early =
        let h = behind not in
        let from = h.behind in
        let place = h.place in
        let e : own_place d.own n ≡ own_place (take kept c.own ++ wholes p.groups) n = ap (λ (os : List Own). own_place os n) owns in
        elim (cases_lt kept (length c.own)) [
          | inl less ↦ let late = stands.after kept (omega arith) less in omega (arith, late, from, e, early)
          | inr all ↦ let most = place_most c.own n in not (omega (arith, all, most, from, e, early))
        ]

    whole_is : own_region (wholes p.groups) n ≡ Some g.region
    whole_is = whole_region p.groups 0 (length p.groups) n (omega arith) (let less = get_within p.groups n g at in omega (arith, less)) ∙ ap (λ (o : Option Group). Some (group_region o)) at

    own : MatchOption (own_region d.own n) ⊥ (λ xs. IsLike xs (length g.region))
    own = elim (cases_lt (line_told (owns_line p c n)) line) [
      | inl before ↦ subst (λ (o : Option (List Span1)). MatchOption o ⊥ (λ xs. IsLike xs (length g.region))) (sym (regions before)) (like n g at before)
      | inr from ↦
          let h = behind (λ before. omega (arith, before, from)) in
          let e : own_region d.own n ≡ Some g.region = ap (λ (os : List Own). own_region os n) owns ∙ h.regions ∙ whole_is in
          subst (λ (o : Option (List Span1)). MatchOption o ⊥ (λ xs. IsLike xs (length g.region))) (sym e) ((drawn.groups n g at).limits, refl)
    ]

  shared : AreShared p d
  shared = record {
    groups = λ n g at. let k = drawn.groups n g at in record { ends = k.ends; limits = k.limits; extents = k.extents; grid = k.grid; own = own n g at; body = k.body };
    needs = subst (All (NeedIsShared p)) (sym needs) (All-from_recursion (NeedIsShared p) (blank_needs region c.needs) (needs_shared p region c.needs first));
    cells = drawn.cells;
    pieces = drawn.pieces;
  }

  pub is_cut : IsCut p c line d
  is_cut = record {
    shared = shared;
    places = places;
    regions = regions;
    others = others;
    needs = λ n. ap (λ (ns : List Need). need_place ns n) needs ∙ needs_placed region c.needs n;
  }

-- ---- what is told of it is so of the certificate with a broken line

pub line_is_told : (p : Plan) (c : Certificate) (found : Option Flaw) → MatchOption found (LinesStand p c) (LineMeans p c) → MatchOption found (LinesStand p c) (LineIsTold p c)
line_is_told p c None h = h
line_is_told p c (Some f) h = inl h

group_there : (gs : List Group) (n : ℕ) → n < length gs → (g : Group) × (slice_get gs n ≡ Some g)
group_there [] n less = absurd (omega (arith, less))
group_there (g ∷ gs) zero less = (g, refl)
group_there (g ∷ gs) (suc n) less = group_there gs n (omega (arith, less))

-- codes at own lines are below 14
not_fourteen : (p : Plan) (c : Certificate) (n : ℕ) (k : K) → OwnCode p c n k → (number_of k == 14) ≡ false
not_fourteen p c n K1 h = absurd h
not_fourteen p c n K2 h = absurd h
not_fourteen p c n K3 h = absurd h
not_fourteen p c n K4 h = absurd h
not_fourteen p c n K5 h = absurd h
not_fourteen p c n K6 h = absurd h
not_fourteen p c n K7 h = absurd h
not_fourteen p c n K8 h = absurd h
not_fourteen p c n K9 h = refl
not_fourteen p c n K10 h = refl
not_fourteen p c n K11 h = refl
not_fourteen p c n K12 h = absurd h
not_fourteen p c n K13 h = absurd h
not_fourteen p c n K14 h = absurd h

earlier : (g f : Flaw) → g.line < f.line → is_before g f ≡ true
earlier g f less = let e : nat_lt g.line f.line ≡ true = grind (arith, nat_tests, less) in rw e refl

module _ (p : Plan) (c d : Certificate) (line : ℕ) (cut : IsCut p c line d) where
  ends : GroupsHaveEnds p
  ends n g at = (cut.shared.groups n g at).ends

  abbrev G : ℕ
  G = length p.groups

  lines_same : (n : ℕ) (g : Group) → slice_get p.groups n ≡ Some g → OwnIsBefore p c line n → owns_line p d n ≡ owns_line p c n
  lines_same n g at before = ap (own_line (certificate_line p)) (cut.places n g at before)

  to_cut : (f : Flaw) → IsOwnFlaw p c G f → f.line < line → IsOwnFlaw p d G f
  to_cut f h less =
      let k = group_there p.groups h.0 h.1 in
      let before : OwnIsBefore p c line h.0 = (let e = h.3 in omega (arith, e, less)) in
      let same = lines_same h.0 k.0 k.1 before in
      (h.0, h.1, code_on p d c ends h.0 (sym (cut.regions h.0 k.0 k.1 before)) (sym (cut.needs h.0)) f.code h.2, h.3 ∙ ap line_told (sym same))

  from_cut : (f : Flaw) → IsOwnFlaw p d G f → f.line < line → IsOwnFlaw p c G f
  from_cut f h less =
      let k = group_there p.groups h.0 h.1 in
      let told : OwnIsBefore p d line h.0 = (let e = h.3 in omega (arith, e, less)) in
      let before : OwnIsBefore p c line h.0 = elim (cases_lt (line_told (owns_line p c h.0)) line) [
        | inl early ↦ early
        | inr from ↦ absurd (cut.others h.0 k.0 k.1 (λ no. omega (arith, no, from)) told)
      ] in
      let same = lines_same h.0 k.0 k.1 before in
      (h.0, h.1, code_on p c d ends h.0 (cut.regions h.0 k.0 k.1 before) (cut.needs h.0) f.code h.2, h.3 ∙ ap line_told same)

  first_on : (f : Flaw) → IsFirstOwn p d G f → f.line < line → IsFirstOwn p c G f
  first_on f first less g own = elim (cases_lt g.line line) [
    | inl early ↦ first g (to_cut g own early)
    | inr from ↦ not_before g f (omega (arith, less, from)) (λ same. absurd (omega (arith, less, from, same)))
  ]

  stand_behind : (f : Flaw) → IsFirstOwn p d G f → line ≤ f.line → OwnLinesStand p c line
  stand_behind f first from g own early =
      let not : is_before g f ≡ false = first g (to_cut g own early) in
      false≢true (sym not ∙ earlier g f (omega (arith, early, from)))

  refused_on : (k : ℕ) → FetchIsRefused p d k → FetchIsRefused p c k
  refused_on k h = elim h [
    | inl far ↦ inl far
    | inr past ↦ (let x = past.1 in inr (past.0, record { bodies = x.bodies; place = x.place; stands = x.stands; near = x.near; before = x.before; passed = x.passed }, past.2))
  ]

  -- a flaw that is told of the one is so of the other where it is of a fetch line or stands before the line; else nothing is wrong at
  -- the own lines before it
  own_kept : (f : Flaw) → IsOwnFlaw p d G f → IsFirstOwn p d G f → MatchOption (told_before f line) (OwnLinesStand p c line) (λ g. ErrorMeans p c (Told g))
  own_kept f own first =
      let code : (number_of f.code == 14) ≡ false = not_fourteen p d own.0 f.code own.2 in
      rw code (elim (cases_lt f.line line) [
        | inl less ↦ let e : nat_lt f.line line ≡ true = grind (arith, nat_tests, less) in rw e (inl (own_means p c G f (from_cut f own less), first_on f first less))
        | inr from ↦ let e : nat_lt f.line line ≡ false = grind (arith, nat_tests, from) in rw e (stand_behind f first from)
      ])

  fetch_kept : (f : Flaw) → f.code ≡ K14 → FetchIsRefused p d f.line → MatchOption (told_before f line) (OwnLinesStand p c line) (λ g. ErrorMeans p c (Told g))
  fetch_kept f is refused =
      let code : (number_of f.code == 14) ≡ true = ap (λ (k : K). number_of k == 14) is in
      rw code (inr (is, refused_on f.line refused))

  pub kept_told : (f : Flaw) → LineIsTold p d f → MatchOption (told_before f line) (OwnLinesStand p c line) (λ g. ErrorMeans p c (Told g))
  kept_told f h = elim h [
    | inl means ↦ elim means.0 [
      | inl own ↦ own_kept f own means.1
      | inr past ↦ fetch_kept f past.0 (inr past.1)
    ]
    | inr refused ↦ fetch_kept f refused.0 refused.1
  ]

  -- nothing is
  pub none_told : LinesStand p d → OwnLinesStand p c line
  none_told stand f own early = stand.own f (to_cut f own early)
