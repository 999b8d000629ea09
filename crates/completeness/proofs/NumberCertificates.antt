-- The numbers in the lines of a certificate have a text, where its plan's loops are split once, by whatever tails.
use Rattle.std.proofs.Common.{◌≡◌, ℕ, zero, suc, ◌+◌, ◌*◌, ◌<◌, ◌≤◌, ◌^◌, true, false, List, [], ◌∷◌, ◌++◌, length, map, Option, Some, None, refl, sym, ap, ◌∙◌, subst, arith}
use Rattle.std.specs.Prelude.{◌-◌, ◌&&◌, nat_lt, slice_get}
use Rattle.std.specs.List.{AllByRecursion, list_all}
use Rattle.std.proofs.lemmas.List.{length-append, length-map}
use Rattle.std.proofs.lemmas.List.Folds.{list_all-append}
use Rattle.lin.specs.declared.span.Span1.{Span1}
use Rattle.bounds.proofs.ListSound.{all-append}
use Rattle.meaning.specs.Algorithm.{Algorithm}
use Rattle.meaning.specs.Conditions.{IsAlgorithm}
use Rattle.plan.specs.declared.plan.Group.{Group as CodeGroup}
use Rattle.plan.specs.declared.certificate.cert.Own.{Own}
use Rattle.plan.specs.declared.certificate.cert.Claim.{Claim as CodeClaim}
use Rattle.plan.specs.declared.certificate.cert.Need.{Need}
use Rattle.plan.specs.declared.certificate.cert.Window.{Window}
use Rattle.plan.specs.Plan.{Group}
use Rattle.plan.specs.View.{group_of, plan_of}
use Rattle.plan.specs.Lines.{lines, certificate_line}
use Rattle.plan.specs.Certificate.Certificate.{Claim, claim_of, certificate_of}
use Rattle.plan.specs.Certificate.Cells.{own_region}
use Rattle.spelling.specs.Words.Fitting.{fits_region}
use Rattle.cert.specs.Lines.{Line, OwnLine, NeedLine, WindowLine, End, claim_lines, lines_of}
use Rattle.cert.specs.Spelling.{line_text}
use Rattle.cert.specs.Notation.{certificate_lines}
use Rattle.headline.proofs.Lists.{from_map}
use Rattle.sched.specs.Schedule.{Schedule}
use Rattle.sched.specs.Legal.{IsLegal}
use Rattle.lower.specs.declared.lowering.Lowered.{Lowered}
use Rattle.sched.specs.Stored.{StoredText}
use Rattle.lower.specs.Stored.{stored_functions, has_large}
use Rattle.regions.specs.Faults.{are_whole}
use Rattle.lower.specs.Faults.{region_fault}
use Rattle.sched.specs.Fetches.{Entry}
use Rattle.lower.specs.Groups.{AreOwned, line_behind, HaveBodies, HasGroups}
use Rattle.completeness.specs.Fitting.{IsSplitOnce}
use Rattle.completeness.specs.SaidCertificates.{has_numbers}
use Rattle.completeness.proofs.CertLimits.{own_group}
use Rattle.completeness.proofs.Counts.{functions_few}
use Rattle.completeness.proofs.FewLines.{body_small, bodies_long, lines_many}
use Rattle.completeness.proofs.GroupTexts.{group_texts}
use Rattle.completeness.proofs.NumberClaims.{IsClaimSmall, IsNeedNumbered, body_claims}
use Rattle.completeness.proofs.NumberLines.{both, less}
use Rattle.completeness.proofs.Owned.{some_same, own_found}
use Rattle.completeness.proofs.Served.{roots, made_at}

-- ---- how many claims there are

-- of so many groups before the last of 64, where each has a claim of each one before it, and five of its own
abbrev most : ℕ → ℕ
most zero = 0
most (suc r) = (68 - r) + most r

most_few : most 64 < 4096
most_few = (let is : most 64 ≡ 2336 = refl in omega (arith, is))

-- ---- lines

abbrev Numbered : List Line → Type 0
Numbered ls = list_all has_numbers ls ≡ true

joined : (xs ys : List Line) → Numbered xs → Numbered ys → Numbered (xs ++ ys)
joined xs ys h k = list_all-append has_numbers xs ys ∙ (λ i. h i && k i)

claims_numbered : (k : ℕ) (cs : List CodeClaim) → k + length cs ≤ 4096 → AllByRecursion IsClaimSmall cs → Numbered (claim_lines k (map claim_of cs))
claims_numbered k [] le h = refl
claims_numbered k (c ∷ cs) le h =
    let line = h.0.line in
    let buffer = h.0.buffer in
    let definition = h.0.definition in
    let first : nat_lt k 4096 ≡ true = less k 4096 (omega (arith, le)) in
    let lines = both _ _ first (less c.line (2 ^ 63) (omega (arith, line))) in
    let buffers = both _ _ lines (less c.buffer (2 ^ 63) (omega (arith, buffer))) in
    let definitions = both _ _ buffers (less c.definition (2 ^ 63) (omega (arith, definition))) in
    both _ _ (both _ _ definitions h.0.region) (claims_numbered (k + 1) cs (omega (arith, le)) h.1)

needs_numbered : (ws : List Need) → AllByRecursion IsNeedNumbered ws → Numbered (map NeedLine ws)
needs_numbered [] h = refl
needs_numbered (w ∷ ws) h = both _ _ h.0 (needs_numbered ws h.1)

owns_numbered : (n : ℕ) (ps : List CodeGroup) (os : List Own) → AreOwned n ps os → n + length ps ≤ 64 → ((i : ℕ) (o : Own) → slice_get os i ≡ Some o → fits_region o.region ≡ true) →
    Numbered (map OwnLine os)
owns_numbered n [] [] h le region = refl
owns_numbered n [] (o ∷ os) h le region = absurd h
owns_numbered n (p ∷ ps) [] h le region = refl
owns_numbered n (p ∷ ps) (o ∷ os) h le region =
    let numbered = h.0.numbered in
    both _ _ (both _ _ (less o.group (2 ^ 63) (omega (arith, numbered, le))) (region 0 o refl)) (owns_numbered (n + 1) ps os h.1 (omega (arith, le)) (λ i u at. region (suc i) u at))

-- ---- made certificates

module _ (a : Algorithm) (sch : Schedule) (l : Lowered) (well : IsAlgorithm a) (legal : IsLegal a sch) (small : has_large (stored_functions a sch) ≡ false)
    (kept : region_fault a (stored_functions a sch) ≡ None) (all : are_whole (stored_functions a sch) ≡ true) (groups : HasGroups a (stored_functions a sch) l)
    (once : (n : ℕ) (u : StoredText) → slice_get (stored_functions a sch) n ≡ Some u → IsSplitOnce u) where
  abbrev gs : List StoredText
  gs = stored_functions a sch

  abbrev ps : List CodeGroup
  ps = l.plan.groups.items

  abbrev entries : List Entry
  entries = roots a sch l well legal small kept all groups

  -- of the groups from the number n on, which are so many before 64
  record AreSmall (r : ℕ) (claims : List CodeClaim) (needs : List Need) : Type 0 where
    claimed : AllByRecursion IsClaimSmall claims
    needed : AllByRecursion IsNeedNumbered needs
    few : length claims ≤ most r
    needs_few : length needs ≤ most r

  bodies_claims : (r n c line : ℕ) (hs : List StoredText) (qs : List CodeGroup) (claims : List CodeClaim) (needs : List Need) → HaveBodies a entries n c line hs qs claims needs →
      n + r ≡ 64 → length hs ≤ r → line ≤ 4 + 700 * n → ((i : ℕ) (u : StoredText) → slice_get hs i ≡ Some u → slice_get gs (n + i) ≡ Some u) →
      ((i : ℕ) (q : CodeGroup) → slice_get qs i ≡ Some q → slice_get ps (n + i) ≡ Some q) → AreSmall r claims needs
  bodies_claims r n c line [] [] claims needs h rest long under at theirs =
      let none = ap length h.0 in
      let no_needs = ap length h.1 in
      record { claimed = subst (AllByRecursion IsClaimSmall) (sym h.0) tt; needed = subst (AllByRecursion IsNeedNumbered) (sym h.1) tt; few = omega (arith, none); needs_few = omega (arith, no_needs) }
  bodies_claims r n c line [] (q ∷ qs) claims needs h rest long under at theirs = absurd h
  bodies_claims r n c line (g ∷ hs) [] claims needs h rest long under at theirs = absurd h
  bodies_claims zero n c line (g ∷ hs) (q ∷ qs) claims needs h rest long under at theirs = absurd (omega (arith, long))
  bodies_claims (suc r) n c line (g ∷ hs) (q ∷ qs) claims needs h rest long under at theirs =
      let none : n + 0 ≡ n = omega arith in
      let here : slice_get gs n ≡ Some g = ap (slice_get gs) (sym none) ∙ at 0 g refl in
      let there : slice_get ps n ≡ Some q = ap (slice_get ps) (sym none) ∙ theirs 0 q refl in
      let own = body_claims a sch l well legal small kept all groups once n c line g q h.own_claims h.own_needs here there (omega (arith, under, rest)) h.here in
      let lines = (body_small a sch l well legal small kept all groups once n q there).1 in
      let others = bodies_claims r (n + 1) (c + length h.own_claims) (line_behind line q) hs qs h.other_claims h.other_needs h.behind (omega (arith, rest)) (omega (arith, long))
      (omega (arith, under, lines))
      (λ i u e. let next : n + suc i ≡ (n + 1) + i = omega arith in ap (slice_get gs) (sym next) ∙ at (suc i) u e)
      (λ i u e. let next : n + suc i ≡ (n + 1) + i = omega arith in ap (slice_get ps) (sym next) ∙ theirs (suc i) u e) in
      let whole = ap length h.claimed in
      let parts = length-append h.own_claims h.other_claims in
      let whole_needs = ap length h.needed in
      let parts_needs = length-append h.own_needs h.other_needs in
      let one_needs = own.needs_few in
      let more_needs = others.needs_few in
      let one = own.few in
      let more = others.few in
      let step : most (suc r) ≡ (68 - r) + most r = refl in
      record {
        claimed = subst (AllByRecursion IsClaimSmall) (sym h.claimed) (all-append IsClaimSmall h.own_claims h.other_claims own.claimed others.claimed);
        needed = subst (AllByRecursion IsNeedNumbered) (sym h.needed) (all-append IsNeedNumbered h.own_needs h.other_needs own.needed others.needed);
        few = omega (arith, whole, parts, one, more, rest, step);
        needs_few = omega (arith, whole_needs, parts_needs, one_needs, more_needs, rest, step);
      }

  all_claims : AreSmall 64 l.certificate.claims.items l.certificate.needs.items
  all_claims =
      let functions = functions_few a sch l well legal small kept all groups in
      bodies_claims 64 0 0 4 gs ps l.certificate.claims.items l.certificate.needs.items (groups.bodies all) refl functions (omega arith)
      (λ i u e. let none : 0 + i ≡ i = omega arith in ap (slice_get gs) none ∙ e) (λ i u e. let none : 0 + i ≡ i = omega arith in ap (slice_get ps) none ∙ e)

  own_text : (i : ℕ) (o : Own) → slice_get l.certificate.own.items i ≡ Some o → fits_region o.region ≡ true
  own_text i o at =
      let x = own_group ps l.certificate.own.items 0 groups.owned i o at in
      let me = made_at a sch l well legal small kept all groups i x.0 x.1 in
      let texts = group_texts a sch l well legal small kept all groups once i x.0 x.1 in
      let none : 0 + i ≡ i = omega arith in
      let region : me.own.region ≡ o.region =
      some_same me.own.region o.region (sym me.told ∙ sym (ap (λ (j : ℕ). own_told j) none) ∙ own_found ps l.certificate.own.items 0 groups.owned i o at) in
      subst (λ (ss : List Span1). fits_region ss ≡ true) region (ap fits_region me.owned ∙ texts.1)
    where
      own_told : ℕ → Option (List Span1)
      own_told j = own_region l.certificate.own.items j

  pub certificate_numbered : list_all has_numbers (lines_of (certificate_of l.certificate)) ≡ true
  certificate_numbered =
      let made = all_claims in
      let few = made.few in
      let under = most_few in
      let functions = functions_few a sch l well legal small kept all groups in
      let long = bodies_long a entries 0 0 4 gs ps l.certificate.claims.items l.certificate.needs.items (groups.bodies all) in
      let own = owns_numbered 0 ps l.certificate.own.items groups.owned (omega (arith, functions, long)) own_text in
      let needs = needs_numbered l.certificate.needs.items made.needed in
      let claims = claims_numbered 0 l.certificate.claims.items (omega (arith, few, under)) made.claimed in
      let windows : List Window → List Line = λ ws. map WindowLine ws ++ End ∷ [] in
      let last : Numbered (windows l.certificate.windows.items) = subst (λ (ws : List Window). Numbered (windows ws)) (sym (groups.windows all)) refl in
      let claim_part = claim_lines 0 (map claim_of l.certificate.claims.items) in
      let behind = joined claim_part (windows l.certificate.windows.items) claims last in
      let middle = joined (map NeedLine l.certificate.needs.items) (claim_part ++ windows l.certificate.windows.items) needs behind in
      both _ _ refl (joined (map OwnLine l.certificate.own.items) (map NeedLine l.certificate.needs.items ++ (claim_part ++ windows l.certificate.windows.items)) own middle)

  -- ---- how many lines there are

  owns_many : (n : ℕ) (qs : List CodeGroup) (os : List Own) → AreOwned n qs os → length os ≡ length qs
  owns_many n [] [] h = refl
  owns_many n [] (o ∷ os) h = absurd h
  owns_many n (q ∷ qs) [] h = absurd h
  owns_many n (q ∷ qs) (o ∷ os) h = ap suc (owns_many (n + 1) qs os h.1)

  claims_many : (k : ℕ) (cs : List Claim) → length (claim_lines k cs) ≡ length cs
  claims_many k [] = refl
  claims_many k (c ∷ cs) = ap suc (claims_many (k + 1) cs)

  pub lines_few : certificate_line (plan_of l.plan) + length (certificate_lines (certificate_of l.certificate)) ≤ 65537
  lines_few =
      let c = certificate_of l.certificate in
      let made = all_claims in
      let claims = made.few in
      let needs = made.needs_few in
      let all_most : most 64 ≡ 2336 = refl in
      let functions = functions_few a sch l well legal small kept all groups in
      let long = bodies_long a entries 0 0 4 gs ps l.certificate.claims.items l.certificate.needs.items (groups.bodies all) in
      let lines = lines_many (plan_of l.plan).groups (λ n g at.
      let x = from_map group_of ps n g at in
      subst (λ (u : Group). lines u.body + 1 ≤ 700) (sym x.2) (body_small a sch l well legal small kept all groups once n x.0 x.1).1) in
      let many = length-map ps group_of in
      let own_many = owns_many 0 ps l.certificate.own.items groups.owned in
      let own_lines = length-map l.certificate.own.items OwnLine in
      let need_lines = length-map l.certificate.needs.items NeedLine in
      let claim_count = length-map l.certificate.claims.items claim_of in
      let claims_count = claims_many 0 c.claims in
      let no_windows = ap (λ (ws : List Window). length (map WindowLine ws)) (groups.windows all) in
      let written = length-map (lines_of c) line_text in
      let claim_part = claim_lines 0 c.claims in
      let last : List Line = map WindowLine c.windows ++ End ∷ [] in
      let fourth = length-append (map WindowLine c.windows) (End ∷ []) in
      let third = length-append claim_part last in
      let second = length-append (map NeedLine c.needs) (claim_part ++ last) in
      let first = length-append (map OwnLine c.own) (map NeedLine c.needs ++ (claim_part ++ last)) in
      omega (arith, claims, needs, all_most, functions, long, lines, many, own_many, own_lines, need_lines, claim_count, claims_count, no_windows, written, fourth, third, second, first)
