-- The lines of plans and certificates that are made of schedules that split loops once are short, but for stores of large expressions.
use Rattle.std.proofs.Common.{◌≡◌, ℕ, suc, ◌+◌, ◌≤◌, Bool, true, false, ◌&&◌, List, [], ◌∷◌, ◌++◌, length, length-append, map, Option, Some, None, refl, sym, ap, ◌∙◌, subst, inl, inr, arith}
use Rattle.std.specs.Prelude.{nat_lt, nat_le, slice_get, ◌==◌}
use Rattle.std.specs.List.{AllByRecursion, list_all}
use Rattle.std.proofs.lemmas.Bool.Decides.{nat_tests}
use Rattle.std.proofs.lemmas.List.Folds.{list_all-append}
use Rattle.lin.specs.declared.span.Span1.{Span1}
use Rattle.meaning.specs.Algorithm.{Function, Algorithm}
use Rattle.meaning.specs.Conditions.{IsAlgorithm, function_named}
use Rattle.meaning.specs.Image.View.{AreExtents}
use Rattle.algo.specs.Words.{IsNamed}
use Rattle.algo.specs.Written.{AreExpressionsWritten}
use Rattle.plan.specs.declared.certificate.cert.Own.{Own}
use Rattle.plan.specs.declared.certificate.cert.Need.{Need}
use Rattle.plan.specs.declared.certificate.cert.Window.{Window}
use Rattle.plan.specs.Plan.{Group, Plan}
use Rattle.plan.specs.View.{group_of, plan_of}
use Rattle.plan.specs.Certificate.Certificate.{Claim, Certificate, certificate_of}
use Rattle.soundness.specs.Outline.Forms.{spans_are_within_limits}
use Rattle.validation.specs.Certificate.Certificate.{is_region_of, is_need_of, is_of_function}
use Rattle.validation.specs.Groups.Lines.{start}
use Rattle.validation.specs.Groups.Wrong.{IsUnknownAt, IsWideAt}
use Rattle.soundness.specs.Outline.Flaws.{line_told}
use Rattle.plan.specs.Lines.{group_line}
use Rattle.spelling.specs.Words.Spelling.{count_text, region_text}
use Rattle.spelling.specs.Words.Fitting.{fits_region}
use Rattle.headline.proofs.Lists.{from_map}
use Rattle.nest.specs.Blocks.Line.{Line}
use Rattle.nest.specs.Blocks.Flat.{statement_lines, group_lines, groups_lines, plan_lines}
use Rattle.nest.specs.Fitting.{fits_line}
use Rattle.nest.specs.Notation.{fits_plan}
use Rattle.nest.specs.Spelling.{line_text}
use Rattle.cert.specs.Lines.{Line as CertLine, Head, OwnLine, NeedLine, ClaimLine, WindowLine, End, mark_of, claim_lines, lines_of}
use Rattle.cert.specs.Order.{fits_line as fits_cert_line, may_stand}
use Rattle.cert.specs.Spelling.{own_text, need_text, claim_text, line_text as cert_text}
use Rattle.cert.specs.Notation.{fits_certificate}
use Rattle.sched.specs.Schedule.{Schedule}
use Rattle.sched.specs.Legal.{IsLegal}
use Rattle.lower.specs.declared.lowering.Lowered.{Lowered}
use Rattle.lower.specs.Stored.{stored_functions}
use Rattle.regions.specs.Faults.{are_whole}
use Rattle.lower.specs.Faults.{region_fault}
use Rattle.lower.specs.Refused.{AreSmall, AreRegionsKept}
use Rattle.lower.specs.Groups.{AreGroupsMade}
use Rattle.completeness.specs.Fitting.{SplitsOnce}
use Rattle.completeness.specs.Laws.{LinesAreKnown}
use Rattle.completeness.specs.OfPlans.{is_short, is_small_line, AreLinesShort, AreStoresSmall}
use Rattle.completeness.specs.Owed.{IsWithinSpan}
use Rattle.completeness.specs.Parted.{KeepsInner, InnersAreKept}
use Rattle.completeness.specs.Said.{IsCalledBy, IsPlanSaid}
use Rattle.bounds.proofs.ListSound.{all-append}
use Rattle.std.specs.Option.{option_map}
use Rattle.validation.specs.Stored.Definitions.{parts_of}
use Rattle.completeness.proofs.AllocForms.{all_within}
use Rattle.completeness.proofs.CertLimits.{spans_small, at_each, own_within}
use Rattle.completeness.proofs.FewLines.{group_short, lines_told}
use Rattle.completeness.proofs.KnownLines.{known}
use Rattle.completeness.proofs.NamesRead.{named_no_load}
use Rattle.completeness.proofs.NearClaims.{claims_near}
use Rattle.completeness.proofs.NeedForms.{needs_good}
use Rattle.completeness.proofs.SaidPlans.{plans_are_said}
use Rattle.completeness.proofs.Shared.{shared}
use Rattle.completeness.proofs.LineLengths.{name_long, IsSlim, line_long}
use Rattle.completeness.proofs.SlimLines.{called_short, spans_near, slim_named, few_spans, near_region, IsSlimLine, statement_slim}
use Rattle.completeness.proofs.Standing.{Taken}
use Rattle.completeness.proofs.TextLengths.{size_long, region_long}

both : (a b : Bool) → (a && b) ≡ true → (a ≡ true) × (b ≡ true)
both true b h = (refl, h)
both false b h = absurd (cc h)

at_most : (m n : ℕ) → m ≤ n → nat_le m n ≡ true
at_most m n h = grind (arith, nat_tests)

same_so : (m n : ℕ) → (m == n) ≡ true → m ≡ n
same_so m n h = grind (arith, nat_tests, h)

-- ---- certificates

-- forms within the limits of forms, and few spans
abbrev IsSlimRegion : List Span1 → Type 0
IsSlimRegion region = (spans_are_within_limits region ≡ true) × (length region ≤ 10)

abbrev IsSlimCert : CertLine → Type 0
IsSlimCert (OwnLine o) = IsSlimRegion o.region
IsSlimCert (NeedLine n) = IsSlimRegion n.region
IsSlimCert (ClaimLine k c) = IsSlimRegion c.region
IsSlimCert (WindowLine w) = ⊥
IsSlimCert _ = Unit {0}

slim_long : (region : List Span1) → fits_region region ≡ true → IsSlimRegion region → length (region_text region) ≤ 19782
slim_long region fits slim = region_long region fits (spans_near region slim.0) slim.1

cert_long : (l : CertLine) → fits_cert_line l ≡ true → IsSlimCert l → length (cert_text l) ≤ 65536
unfolding own_text need_text claim_text
cert_long Head fits slim = omega arith
cert_long (OwnLine o) fits slim =
    let a = both _ _ fits in
    let group = size_long o.group a.0 in
    let region = slim_long o.region a.1 slim in
    let all = length-append (count_text o.group) (32 ∷ region_text o.region) in
    omega (arith, group, region, all)
cert_long (NeedLine n) fits slim =
    let a = both _ _ fits in
    let b = both _ _ a.0 in
    let group = size_long n.group b.0 in
    let needed = size_long n.needed b.1 in
    let region = slim_long n.region a.1 slim in
    let last = length-append (count_text n.needed) (32 ∷ region_text n.region) in
    let all = length-append (count_text n.group) (32 ∷ (count_text n.needed ++ (32 ∷ region_text n.region))) in
    omega (arith, group, needed, region, last, all)
cert_long (ClaimLine k c) fits slim =
    let a = both _ _ fits in
    let b = both _ _ a.0 in
    let d = both _ _ b.0 in
    let e = both _ _ d.0 in
    let f = both _ _ e.0 in
    let number = size_long k (small k f.0) in
    let line = size_long c.line f.1 in
    let buffer = size_long c.buffer e.1 in
    let name = name_long c.function d.1 in
    let definition = size_long c.definition b.1 in
    let region = slim_long c.region a.1 slim in
    let one = length-append (count_text c.definition) (32 ∷ region_text c.region) in
    let two = length-append c.function (32 ∷ (count_text c.definition ++ (32 ∷ region_text c.region))) in
    let three = length-append (count_text c.buffer) (32 ∷ (c.function ++ (32 ∷ (count_text c.definition ++ (32 ∷ region_text c.region))))) in
    let four = length-append (count_text c.line) (32 ∷ (98 ∷ (count_text c.buffer ++ (32 ∷ (c.function ++ (32 ∷ (count_text c.definition ++ (32 ∷ region_text c.region)))))))) in
    let five = length-append (count_text k) (32 ∷ (count_text c.line ++ (32 ∷ (98 ∷ (count_text c.buffer ++ (32 ∷ (c.function ++ (32 ∷ (count_text c.definition ++ (32 ∷ region_text
    c.region)))))))))) in
    omega (arith, number, line, buffer, name, definition, region, one, two, three, four, five)
  where
    small : (n : ℕ) → nat_lt n 4096 ≡ true → nat_lt n 9223372036854775808 ≡ true
    small n h = grind (arith, nat_tests, h)
cert_long (WindowLine w) fits slim = absurd slim
cert_long End fits slim = omega arith

-- what may stand behind a line takes
abbrev Mark : Type 0
Mark = Taken _ _ may_stand

fits_each : (last : Mark) (ls : List CertLine) → may_stand last ls ≡ true → list_all fits_cert_line ls ≡ true
fits_each last [] h = refl
fits_each last (l ∷ ls) h =
    let a = both _ _ h in
    let b = both _ _ a.0 in
    let rest = fits_each (mark_of l) ls a.1 in
    λ i. b.1 i && rest i

short_certs : (ls : List CertLine) → list_all fits_cert_line ls ≡ true → AllByRecursion IsSlimCert ls → list_all is_short (map cert_text ls) ≡ true
short_certs [] fits slim = refl
short_certs (l ∷ ls) fits slim =
    let a = both _ _ fits in
    let own = at_most (length (cert_text l)) 65536 (cert_long l a.0 slim.0) in
    let rest = short_certs ls a.1 slim.1 in
    λ i. own i && rest i

owns_slim : (os : List Own) → ((i : ℕ) (o : Own) → slice_get os i ≡ Some o → IsSlimRegion o.region) → AllByRecursion IsSlimCert (map OwnLine os)
owns_slim [] each = tt
owns_slim (o ∷ os) each = (each 0 o refl, owns_slim os (λ i u at. each (suc i) u at))

needs_slim : (ns : List Need) → ((i : ℕ) (n : Need) → slice_get ns i ≡ Some n → IsSlimRegion n.region) → AllByRecursion IsSlimCert (map NeedLine ns)
needs_slim [] each = tt
needs_slim (n ∷ ns) each = (each 0 n refl, needs_slim ns (λ i u at. each (suc i) u at))

claims_slim : (k : ℕ) (cs : List Claim) → ((i : ℕ) (c : Claim) → slice_get cs i ≡ Some c → IsSlimRegion c.region) → AllByRecursion IsSlimCert (claim_lines k cs)
claims_slim k [] each = tt
claims_slim k (c ∷ cs) each = (each 0 c refl, claims_slim (k + 1) cs (λ i u at. each (suc i) u at))

-- ---- plans

module _ (IsCalled : List ℕ → Type 0) (short : (x : List ℕ) → IsCalled x → length x ≤ 16) where
  short_lines : (ls : List Line) → list_all fits_line ls ≡ true → AllByRecursion (IsSlim IsCalled short) ls → list_all is_short (map line_text ls) ≡ true
  short_lines [] fits slim = refl
  short_lines (l ∷ ls) fits slim =
      let a = both _ _ fits in
      let own = at_most (length (line_text l)) 65536 (line_long IsCalled short l a.0 slim.0) in
      let rest = short_lines ls a.1 slim.1 in
      λ i. own i && rest i

extents_few : (ns : List ℕ) → AreExtents ns → length ns ≤ 3
extents_few [] h = absurd h
extents_few (w ∷ []) h = omega arith
extents_few (w ∷ t ∷ []) h = omega arith
extents_few (w ∷ t ∷ c ∷ []) h = omega arith
extents_few (w ∷ t ∷ c ∷ d ∷ ns) h = absurd h

each_at : {A : Type 0} (P : A → Type 0) (xs : List A) → ((i : ℕ) (x : A) → slice_get xs i ≡ Some x → P x) → AllByRecursion P xs
each_at P [] h = tt
each_at P (x ∷ xs) h = (h 0 x refl, each_at P xs (λ i y e. h (suc i) y e))

halves : (xs ys : List Line) → list_all is_small_line (xs ++ ys) ≡ true → (list_all is_small_line xs ≡ true) × (list_all is_small_line ys ≡ true)
halves xs ys h = both _ _ (sym (list_all-append is_small_line xs ys) ∙ h)

module _ (a : Algorithm) (s : Schedule) (l : Lowered) (well : IsAlgorithm a) (legal : IsLegal a s) (small : AreSmall a s) (regions : AreRegionsKept a s) (groups : AreGroupsMade a s l)
    (splits : SplitsOnce a s) (named : IsNamed a) (written : AreExpressionsWritten a) where
  abbrev p : Plan
  p = plan_of l.plan

  abbrev c : Certificate
  c = certificate_of l.certificate

  abbrev all : are_whole (stored_functions a s) ≡ true
  all = splits.whole

  abbrev kept : region_fault a (stored_functions a s) ≡ None
  kept = (regions splits.whole).0

  inners : InnersAreKept a s
  inners = each_at (λ g. KeepsInner g.placed.loops g.placed.cuts) (stored_functions a s) (λ i g at. (splits.once i g at).inners)

  lines : LinesAreKnown a p c
  lines = (shared a s l well legal small regions groups all inners).lines

  said : IsPlanSaid p c
  said = plans_are_said a s l well legal small regions groups all named written

  unknown : (line : ℕ) → IsUnknownAt a p c line → ⊥
  unknown = known a s l well legal small regions groups all (named_no_load a named) (lines_told a s l well legal small kept all groups splits.once)

  wide : (line : ℕ) → IsWideAt p line → ⊥
  wide = all_within a s l well legal small regions groups all

  -- ---- groups

  spans_of : (n : ℕ) (g : Group) → slice_get p.groups n ≡ Some g → length g.region ≤ 3
  spans_of n g at =
      few_spans a well g.function (length g.region)
      (λ lacks. unknown (line_told (group_line p n)) (inl (record { number = n; group = g; there = at; line_is = refl; so = inr (inl lacks) })))

  grid_of : (n : ℕ) (g : Group) → slice_get p.groups n ≡ Some g → length g.grid ≤ 10
  grid_of n g at =
      let x = from_map group_of l.plan.groups.items n g at in
      let r = group_short a s l well legal small kept all groups splits.once n x.0 x.1 in
      let grid = r.short.grid in
      let count : length x.0.grid.items ≡ length r.body.skeleton.grid = ap length r.grid in
      subst (λ (y : Group). length y.grid ≤ 10) (sym x.2) (omega (arith, grid, count))

  abbrev Slim : Line → Type 0
  Slim = IsSlimLine a well p c (length c.claims) said.few

  group_slim : (n k : ℕ) (g : Group) → slice_get p.groups n ≡ Some g → list_all is_small_line (statement_lines g.body) ≡ true → AllByRecursion Slim (group_lines k g)
  group_slim n k g at few =
      let near = near_region g.region (λ w. wide (line_told (group_line p n)) (inl (record { number = n; group = g; there = at; line_is = refl; so = w }))) in (
        (near, spans_of n g at, grid_of n g at),
        statement_slim a well p c (length c.claims) said.few n g g.body (start (line_told (group_line p n)) g)
            (λ line h. wide line (inr (record { number = n; group = g; there = at; stands = h })))
            (λ line h. unknown line (inr (record { number = n; group = g; there = at; stands = h }))) (said.groups n g at).body few,
      )

  groups_slim : (n : ℕ) (gs : List Group) → ((i : ℕ) (g : Group) → slice_get gs i ≡ Some g → slice_get p.groups (n + i) ≡ Some g) → list_all is_small_line (groups_lines n gs) ≡ true →
      AllByRecursion Slim (groups_lines n gs)
  groups_slim n [] each few = tt
  groups_slim n (g ∷ gs) each few =
      let parts = halves (group_lines n g) (groups_lines (n + 1) gs) few in
      let rest = groups_slim (n + 1) gs (λ i u at. let next : n + suc i ≡ (n + 1) + i = omega arith in ap (slice_get p.groups) (sym next) ∙ each (suc i) u at) parts.1 in
      all-append Slim (group_lines n g) (groups_lines (n + 1) gs) (group_slim (n + 0) n g (each 0 g refl) parts.0) rest

  plan_slim : AreStoresSmall p → AllByRecursion Slim (plan_lines p)
  plan_slim few =
      let input = extents_few l.plan.input.extents.items (subst AreExtents (sym groups.head.input.extents) well.input_extents) in
      let output = extents_few l.plan.output.extents.items (subst AreExtents (sym groups.head.output.extents) well.output_extents) in
      (tt, (input, (output, groups_slim 0 p.groups (λ i g at. let none : i ≡ 0 + i = omega arith in ap (slice_get p.groups) (sym none) ∙ at) few)))

  -- ---- the certificate

  own_slim : (i : ℕ) (o : Own) → slice_get c.own i ≡ Some o → IsSlimRegion o.region
  own_slim i o at = (spans_small o.region (own_within a s l well legal small kept all groups splits.once i o at), of (slice_get p.groups o.group) refl (lines.own i o at))
    where
      of : (x : Option Group) → slice_get p.groups o.group ≡ x → is_region_of x o.region ≡ true → length o.region ≤ 10
      of None e h = absurd (cc h)
      of (Some g) e h = (let same_count = same_so (length o.region) (length g.region) (both _ _ h).0 in let few = spans_of o.group g e in omega (arith, same_count, few))

  need_slim : (i : ℕ) (n : Need) → slice_get c.needs i ≡ Some n → IsSlimRegion n.region
  need_slim i n at =
      let within = at_each (λ w. AllByRecursion IsWithinSpan w.region) l.certificate.needs.items i n (needs_good a s l well legal small kept all groups) at in
      (spans_small n.region within, of (slice_get p.groups n.group) (slice_get p.groups n.needed) refl (lines.needs i n at))
    where
      of : (x y : Option Group) → slice_get p.groups n.needed ≡ y → is_need_of x y n.region ≡ true → length n.region ≤ 10
      of None y e h = absurd (cc h)
      of (Some g) None e h = absurd (cc h)
      of (Some g) (Some u) e h = (let same_count = same_so (length n.region) (length u.grid) (both _ _ h).0 in let few = grid_of n.needed u e in omega (arith, same_count, few))

  claim_slim : (i : ℕ) (m : Claim) → slice_get c.claims i ≡ Some m → IsSlimRegion m.region
  claim_slim i m at =
      (spans_small m.region (claims_near a s l well legal small kept all groups splits.once i m at).0, of (function_named a.functions m.function) refl (both _ _ (lines.claims i m at)).0)
    where
      of : (x : Option Function) → function_named a.functions m.function ≡ x → is_of_function x m ≡ true → length m.region ≤ 10
      of None e h = absurd (cc h)
      of (Some f) e h =
          let same_count = same_so (length m.region) (length f.variables) (both _ _ h).1 in
          let few = (slim_named a well m.function (parts_of f) (ap (option_map parts_of) e)).variables in
          omega (arith, same_count, few)

  certificate_slim : AllByRecursion IsSlimCert (lines_of c)
  certificate_slim =
      let last : List CertLine = map WindowLine c.windows ++ End ∷ [] in
      let none : AllByRecursion IsSlimCert last = subst (λ (ws : List Window). AllByRecursion IsSlimCert (map WindowLine ws ++ End ∷ [])) (sym lines.windows) (tt, tt) in
      let claims = claims_slim 0 c.claims claim_slim in
      let needs = needs_slim c.needs need_slim in
      let owns = owns_slim c.own own_slim in (
        tt,
        all-append IsSlimCert (map OwnLine c.own) (map NeedLine c.needs ++ (claim_lines 0 c.claims ++ last)) owns
            (all-append IsSlimCert (map NeedLine c.needs) (claim_lines 0 c.claims ++ last) needs (all-append IsSlimCert (claim_lines 0 c.claims) last claims none)),
      )

  abbrev behind : List CertLine
  behind = map OwnLine c.own ++ (map NeedLine c.needs ++ (claim_lines 0 c.claims ++ (map WindowLine c.windows ++ End ∷ [])))

  pub short : fits_plan p ≡ true → fits_certificate c ≡ true → AreStoresSmall p → AreLinesShort p c
  short plan certificate few = record {
    plan = short_lines (IsCalledBy (length c.claims)) (called_short (length c.claims) said.few) (plan_lines p) (both _ _ plan).1 (plan_slim few);
    certificate = short_certs (lines_of c) (fits_each (mark_of Head) behind certificate) certificate_slim;
  }
