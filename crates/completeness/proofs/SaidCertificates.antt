-- Certificates of whole functions fit their texts, as far as names and the order of lines go.
use Rattle.std.proofs.Common.{◌≡◌, ℕ, suc, ◌+◌, Bool, true, false, List, [], ◌∷◌, ◌++◌, length, map, Some, None, refl, sym, ◌∙◌, subst, string_bytes, arith}
use Rattle.std.specs.Prelude.{slice_get, ◌&&◌, ◌==◌, nat_lt}
use Rattle.std.specs.List.{AllByRecursion, list_all}
use Rattle.std.proofs.lemmas.Bool.Decides.{nat_tests}
use Rattle.std.proofs.lemmas.Option.{slice_get_within, get_or_from_slice_get}
use Rattle.std.proofs.lemmas.List.Folds.{list_all-append}
use Rattle.lin.specs.declared.span.Span1.{Span1}
use Rattle.lin.specs.declared.scope.Binding.{Binding}
use Rattle.plan.specs.declared.plan.Group.{Group as CodeGroup}
use Rattle.plan.specs.declared.certificate.cert.Claim.{Claim as CodeClaim}
use Rattle.plan.specs.declared.certificate.cert.Need.{Need}
use Rattle.plan.specs.declared.certificate.cert.Own.{Own}
use Rattle.plan.specs.declared.certificate.cert.Window.{Window}
use Rattle.plan.specs.Plan.{Statement, block}
use Rattle.plan.specs.Lines.{block_lines}
use Rattle.plan.specs.Certificate.Certificate.{Claim, Certificate, claim_of, certificate_of}
use Rattle.meaning.specs.Algorithm.{Algorithm}
use Rattle.meaning.specs.Conditions.{IsAlgorithm}
use Rattle.spelling.specs.Words.Fitting.{fits_region}
use Rattle.spelling.specs.Sizes.Sizes.{fits_size}
use Rattle.cert.specs.Lines.{Line, Head, OwnLine, NeedLine, ClaimLine, WindowLine, End, mark_of, claim_lines, lines_of}
use Rattle.cert.specs.Order.{fits_line, may_precede_own, may_precede_need, may_precede_claim, is_inside, may_stand}
use Rattle.cert.specs.Notation.{fits_certificate}
use Rattle.algo.specs.Words.{IsName, IsFunctionNamed, IsNamed}
use Rattle.sched.specs.Schedule.{Schedule}
use Rattle.sched.specs.Legal.{IsLegal}
use Rattle.sched.specs.Skeleton.{NestText}
use Rattle.lower.specs.declared.lowering.Lowered.{Lowered}
use Rattle.sched.specs.Stored.{FormulaText, StoredText}
use Rattle.lower.specs.Stored.{stored_functions, has_large}
use Rattle.blocks.specs.Stored.{flags}
use Rattle.regions.specs.Faults.{are_whole}
use Rattle.lower.specs.Faults.{region_fault}
use Rattle.sched.specs.Around.{grid_scope}
use Rattle.regions.specs.Taken.{sites_of}
use Rattle.sched.specs.Loading.{Loads}
use Rattle.blocks.specs.Bodies.{first_lines, AreNests}
use Rattle.sched.specs.Fetches.{Entry}
use Rattle.blocks.specs.Fetches.{FetchText}
use Rattle.lower.specs.Fetches.{Calls, AreFetched, fetched_groups}
use Rattle.lower.specs.Groups.{AreOwned, HasBody, line_behind, HaveBodies, HasGroups}
use Rattle.completeness.specs.SaidCertificates.{has_numbers, CertificatesFitByNumbers}
use Rattle.completeness.proofs.TermFits.{name_fits}
use Rattle.completeness.proofs.Laid.{subjects, found}
use Rattle.completeness.proofs.Bodies.{other_at, entry_at}
use Rattle.completeness.proofs.Served.{ls as regions_found, roots, ready}

-- ---- the functions of claims have names

abbrev IsClaimNamed : CodeClaim → Type 0
IsClaimNamed w = IsName (string_bytes w.function)

both_named : (xs ys : List CodeClaim) → AllByRecursion IsClaimNamed xs → AllByRecursion IsClaimNamed ys → AllByRecursion IsClaimNamed (xs ++ ys)
both_named [] ys h k = k
both_named (x ∷ xs) ys h k = (h.0, both_named xs ys h.1 k)

fetched_claims : (calls : Calls) (grid : List Binding) (n b line : ℕ) (xs : List (ℕ × Entry)) (fs : List FetchText) (ws : List Need) (cs : List CodeClaim) →
    AreFetched calls grid n b line xs fs ws cs → ((j : ℕ) (x : ℕ × Entry) → slice_get xs j ≡ Some x → IsName x.1.0.subject.name) → AllByRecursion IsClaimNamed cs
fetched_claims calls grid n b line [] [] [] [] h named = tt
fetched_claims calls grid n b line [] [] [] (w ∷ cs) h named = absurd h
fetched_claims calls grid n b line [] [] (w ∷ ws) cs h named = absurd h
fetched_claims calls grid n b line [] (f ∷ fs) ws cs h named = absurd h
fetched_claims calls grid n b line (x ∷ xs) [] ws cs h named = absurd h
fetched_claims calls grid n b line (x ∷ xs) (f ∷ fs) [] cs h named = absurd h
fetched_claims calls grid n b line (x ∷ xs) (f ∷ fs) (w ∷ ws) [] h named = absurd h
fetched_claims calls grid n b line (x ∷ xs) (f ∷ fs) (w ∷ ws) (k ∷ cs) h named =
    (subst IsName (sym h.0.claimed.named) (named 0 x refl), fetched_claims calls grid n (b + 1) (line + 2) xs fs ws cs h.2 (λ j y e. named (suc j) y e))

nest_claims : (g : StoredText) (fs : List FormulaText) (r : List Span1) (ms : Loads) (m line d : ℕ) (ns : List NestText) (xs : List Statement) (cs : List CodeClaim) →
    IsName g.subject.name → AreNests g fs r ms m line d ns xs cs → AllByRecursion IsClaimNamed cs
nest_claims g fs r ms m line d [] xs cs name is = subst (AllByRecursion IsClaimNamed) (sym is.1) tt
nest_claims g fs r ms m line d (w ∷ ns) xs [] name is = absurd is
nest_claims g fs r ms m line d (w ∷ ns) xs (v ∷ cs) name is =
    let rest = nest_claims g fs r (ms ++ (g.subject.name, m) ∷ []) (m + 1) (line + block_lines (block is.first)) (d + 1) ns is.others cs name is.behind in
    (subst IsName (sym is.here.claims.named) name, rest)

module _ (a : Algorithm) (all : List Entry) (named : (k : ℕ) (e : Entry) → slice_get all k ≡ Some e → IsName e.0.subject.name) where
  listed_named : (fs : List FormulaText) (n j : ℕ) (x : ℕ × Entry) → slice_get (fetched_groups fs n 0 all) j ≡ Some x → IsName x.1.0.subject.name
  listed_named fs n j x e = let other = other_at fs n 0 all j x e in named other.place x.1 other.at

  body_claims : (n c line : ℕ) (g : StoredText) (p : CodeGroup) (claims : List CodeClaim) (needs : List Need) → IsName g.subject.name → HasBody a all n c line g p claims needs →
      AllByRecursion IsClaimNamed claims
  body_claims n c line g p claims needs name h =
      let b = h.body in
      let k = h.skeleton in
      let fetched = fetched_claims (sites_of a g h.formulas k) (grid_scope k.grid) n 1 (line + first_lines k) (fetched_groups h.formulas n 0 all) b.fetches needs b.fetched b.fetching
      (listed_named h.formulas n) in
      let own = nest_claims g h.formulas _ _ _ _ 0 k.nests b.nests b.own name b.nested in
      subst (AllByRecursion IsClaimNamed) (sym b.claimed) (both_named b.fetched b.own fetched own)

  bodies_claims : (n c line : ℕ) (gs : List StoredText) (ps : List CodeGroup) (claims : List CodeClaim) (needs : List Need) → HaveBodies a all n c line gs ps claims needs →
      ((i : ℕ) (g : StoredText) → slice_get gs i ≡ Some g → IsName g.subject.name) → AllByRecursion IsClaimNamed claims
  bodies_claims n c line [] [] claims needs h name = subst (AllByRecursion IsClaimNamed) (sym h.0) tt
  bodies_claims n c line [] (p ∷ ps) claims needs h name = absurd h
  bodies_claims n c line (g ∷ gs) [] claims needs h name = absurd h
  bodies_claims n c line (g ∷ gs) (p ∷ ps) claims needs h name =
      let own = body_claims n c line g p h.own_claims h.own_needs (name 0 g refl) h.here in
      let rest = bodies_claims (n + 1) (c + length h.own_claims) (line_behind line p) gs ps h.other_claims h.other_needs h.behind (λ i u e. name (suc i) u e) in
      subst (AllByRecursion IsClaimNamed) (sym h.claimed) (both_named h.own_claims h.other_claims own rest)

abbrev IsSaidClaim : Claim → Type 0
IsSaidClaim c = IsName c.function

as_said : (cs : List CodeClaim) → AllByRecursion IsClaimNamed cs → AllByRecursion IsSaidClaim (map claim_of cs)
as_said [] h = tt
as_said (c ∷ cs) h = (h.0, as_said cs h.1)

-- ---- the order of lines

both : (a b : Bool) → (a && b) ≡ true → (a ≡ true) × (b ≡ true)
both true b h = (refl, h)
both false b h = absurd (cc h)

claim_fits : (k : ℕ) (c : Claim) → IsSaidClaim c → has_numbers (ClaimLine k c) ≡ true → fits_line (ClaimLine k c) ≡ true
claim_fits k c said numbers =
    let four = both (nat_lt k 4096 && fits_size c.line && fits_size c.buffer && fits_size c.definition) (fits_region c.region) numbers in
    let three = both (nat_lt k 4096 && fits_size c.line && fits_size c.buffer) (fits_size c.definition) four.0 in
    let name = name_fits c.function said in
    λ i. three.0 i && name i && three.1 i && four.1 i

end_stands : (last : Line) → is_inside (mark_of last) ≡ true → may_stand (mark_of last) (End ∷ []) ≡ true
end_stands last h = λ i. h i && true && true

is_next_number : (k : ℕ) → (k + 1 == k + 1) ≡ true
is_next_number k = grind (arith, nat_tests)

claims_stand : (k : ℕ) (cs : List Claim) (last : Line) → may_precede_claim (mark_of last) k ≡ true → is_inside (mark_of last) ≡ true → AllByRecursion IsSaidClaim cs
    → list_all has_numbers (claim_lines k cs) ≡ true → may_stand (mark_of last) (claim_lines k cs ++ End ∷ []) ≡ true
claims_stand k [] last first inside said numbers = end_stands last inside
claims_stand k (c ∷ cs) last first inside said numbers =
    let n = both (has_numbers (ClaimLine k c)) (list_all has_numbers (claim_lines (k + 1) cs)) numbers in
    let fits = claim_fits k c said.0 n.0 in
    let rest = claims_stand (k + 1) cs (ClaimLine k c) (is_next_number k) refl said.1 n.1 in
    λ i. first i && fits i && rest i

before_claims : (last : Line) → may_precede_need (mark_of last) ≡ true → (may_precede_claim (mark_of last) 0 ≡ true) × (is_inside (mark_of last) ≡ true)
before_claims Head h = (refl, refl)
before_claims (OwnLine o) h = (refl, refl)
before_claims (NeedLine n) h = (refl, refl)
before_claims (ClaimLine k c) h = absurd (cc h)
before_claims (WindowLine w) h = absurd (cc h)
before_claims End h = absurd (cc h)

before_needs : (last : Line) (n : ℕ) → may_precede_own (mark_of last) n ≡ true → may_precede_need (mark_of last) ≡ true
before_needs Head n h = refl
before_needs (OwnLine o) n h = refl
before_needs (NeedLine w) n h = absurd (cc h)
before_needs (ClaimLine k c) n h = absurd (cc h)
before_needs (WindowLine w) n h = absurd (cc h)
before_needs End n h = absurd (cc h)

next_own : (g n : ℕ) → g ≡ n → nat_lt g (n + 1) ≡ true
next_own g n e = grind (arith, nat_tests, e)

module _ (cs : List Claim) (said : AllByRecursion IsSaidClaim cs) (fine : list_all has_numbers (claim_lines 0 cs) ≡ true) where
  abbrev behind_needs : List Line
  behind_needs = claim_lines 0 cs ++ End ∷ []

  needs_stand : (ws : List Need) (last : Line) → may_precede_need (mark_of last) ≡ true → list_all has_numbers (map NeedLine ws) ≡ true
      → may_stand (mark_of last) (map NeedLine ws ++ behind_needs) ≡ true
  needs_stand [] last h numbers = let first = before_claims last h in claims_stand 0 cs last first.0 first.1 said fine
  needs_stand (w ∷ ws) last h numbers =
      let n = both (has_numbers (NeedLine w)) (list_all has_numbers (map NeedLine ws)) numbers in
      let rest = needs_stand ws (NeedLine w) refl n.1 in
      λ i. h i && n.0 i && rest i

  owns_stand : (n : ℕ) (ps : List CodeGroup) (os : List Own) (ws : List Need) (last : Line) → AreOwned n ps os → may_precede_own (mark_of last) n ≡ true
      → list_all has_numbers (map OwnLine os) ≡ true → list_all has_numbers (map NeedLine ws) ≡ true
      → may_stand (mark_of last) (map OwnLine os ++ (map NeedLine ws ++ behind_needs)) ≡ true
  owns_stand n [] [] ws last owned h own needs = needs_stand ws last (before_needs last n h) needs
  owns_stand n [] (o ∷ os) ws last owned h own needs = absurd owned
  owns_stand n (p ∷ ps) [] ws last owned h own needs = absurd owned
  owns_stand n (p ∷ ps) (o ∷ os) ws last owned h own needs =
      let k = both (has_numbers (OwnLine o)) (list_all has_numbers (map OwnLine os)) own in
      let first = subst (λ (m : ℕ). may_precede_own (mark_of last) m ≡ true) (sym owned.0.numbered) h in
      let rest = owns_stand (n + 1) ps os ws (OwnLine o) owned.1 (next_own o.group n owned.0.numbered) k.1 needs in
      λ i. first i && k.0 i && rest i

cut : (xs ys : List Line) → list_all has_numbers (xs ++ ys) ≡ true → (list_all has_numbers xs ≡ true) × (list_all has_numbers ys ≡ true)
cut xs ys h = both (list_all has_numbers xs) (list_all has_numbers ys) (sym (list_all-append has_numbers xs ys) ∙ h)

certificate_fits : (c : Certificate) (ps : List CodeGroup) → AreOwned 0 ps c.own → c.windows ≡ [] → AllByRecursion IsSaidClaim c.claims → list_all has_numbers (lines_of c) ≡ true
    → fits_certificate c ≡ true
certificate_fits c ps owned none said numbers =
    let behind : List Window → List Line = λ ws. claim_lines 0 c.claims ++ (map WindowLine ws ++ End ∷ []) in
    let own = cut (map OwnLine c.own) (map NeedLine c.needs ++ behind c.windows) numbers in
    let needs = cut (map NeedLine c.needs) (behind c.windows) own.1 in
    let claims = cut (claim_lines 0 c.claims) (map WindowLine c.windows ++ End ∷ []) needs.1 in
    let stands = owns_stand c.claims said claims.0 0 ps c.own c.needs Head owned refl own.0 needs.0 in
    subst (λ (ws : List Window). may_stand (mark_of Head) (map OwnLine c.own ++ (map NeedLine c.needs ++ behind ws)) ≡ true) (sym none) stands

-- ---- made certificates

module _ (a : Algorithm) (sch : Schedule) (l : Lowered) (well : IsAlgorithm a) (legal : IsLegal a sch) (small : has_large (stored_functions a sch) ≡ false)
    (kept : region_fault a (stored_functions a sch) ≡ None) (all : are_whole (stored_functions a sch) ≡ true) (groups : HasGroups a (stored_functions a sch) l) (named : IsNamed a) where
  abbrev stored : List StoredText
  stored = stored_functions a sch

  stored_named : (n : ℕ) (g : StoredText) → slice_get stored n ≡ Some g → IsName g.subject.name
  stored_named n g at =
      let w = found a sch (flags (subjects a sch)) g a.functions n at in
      let f : IsFunctionNamed w.function =
      subst IsFunctionNamed (get_or_from_slice_get a.functions w.place w.function w.function w.at) (named.functions w.place w.function (slice_get_within a.functions w.place w.function w.at)) in
      subst (λ (u : StoredText). IsName u.subject.name) (sym w.is) f.name

  entry_named : (k : ℕ) (e : Entry) → slice_get (roots a sch l well legal small kept all groups) k ≡ Some e → IsName e.0.subject.name
  entry_named k e at =
      let entry = entry_at stored (regions_found a sch l well legal small kept all groups) all (ready a sch l well legal small kept all groups) k e at in
      stored_named k e.0 entry.is

  claims_named : AllByRecursion IsClaimNamed l.certificate.claims.items
  claims_named =
      bodies_claims a (roots a sch l well legal small kept all groups) entry_named 0 0 4 stored l.plan.groups.items l.certificate.claims.items l.certificate.needs.items
      (groups.bodies all) stored_named

  made_fits : list_all has_numbers (lines_of (certificate_of l.certificate)) ≡ true → fits_certificate (certificate_of l.certificate) ≡ true
  made_fits numbers =
      certificate_fits (certificate_of l.certificate) l.plan.groups.items groups.owned (groups.windows all) (as_said l.certificate.claims.items claims_named) numbers

pub certificates_fit_by_numbers : CertificatesFitByNumbers
certificates_fit_by_numbers a s l well legal small regions groups all named numbers = made_fits a s l well legal small (regions all).0 all groups named numbers
