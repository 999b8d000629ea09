-- The certificate whose lines these are.
use Rattle.std.proofs.Common.{◌≡◌, ℕ, ◌+◌, List, [], ◌∷◌, ◌++◌, map, refl, sym, ap, ◌∙◌}
use Rattle.std.specs.List.{flat_map}
use Rattle.std.proofs.lemmas.List.{append-nil}
use Rattle.std.proofs.lemmas.List.Concat.{flat_map-append}
use Rattle.plan.specs.Certificate.Certificate.{Certificate, Claim}
use Rattle.cert.specs.Lines.{Line, OwnLine, NeedLine, ClaimLine, WindowLine, End, claim_lines, lines_of, own_in, need_in, claim_in, window_in, with_line}

abbrev pub gathered : List Line → Certificate
gathered ls = record { own = flat_map own_in ls; needs = flat_map need_in ls; claims = flat_map claim_in ls; windows = flat_map window_in ls }

one : {X : Type 0} (pick : Line → List X) (front : List Line) (l : Line) → flat_map pick (front ++ l ∷ []) ≡ flat_map pick front ++ pick l
one pick front l = flat_map-append pick front (l ∷ []) ∙ ap (λ w. flat_map pick front ++ w) (append-nil (pick l))

-- one line more adds what it says
pub gathered_more : (front : List Line) (l : Line) → gathered (front ++ l ∷ []) ≡ with_line (gathered front) l
gathered_more front l = rw (one own_in front l, one need_in front l, one claim_in front l, one window_in front l) refl

picked : {X : Type 0} (pick : Line → List X) (f : X → Line) (own : (x : X) → pick (f x) ≡ x ∷ []) (xs : List X) (rest : List Line) → flat_map pick (map f xs ++ rest) ≡ xs ++ flat_map pick rest
picked pick f own [] rest = refl
picked pick f own (x ∷ xs) rest = rw (own x, picked pick f own xs rest) refl

passed : {X Y : Type 0} (pick : Line → List X) (f : Y → Line) (none : (y : Y) → pick (f y) ≡ []) (ys : List Y) (rest : List Line) → flat_map pick (map f ys ++ rest) ≡ flat_map pick rest
passed pick f none [] rest = refl
passed pick f none (y ∷ ys) rest = rw (none y, passed pick f none ys rest) refl

claims_picked : (k : ℕ) (cs : List Claim) (rest : List Line) → flat_map claim_in (claim_lines k cs ++ rest) ≡ cs ++ flat_map claim_in rest
claims_picked k [] rest = refl
claims_picked k (c ∷ cs) rest = ap (λ w. c ∷ w) (claims_picked (k + 1) cs rest)

claims_passed : {X : Type 0} (pick : Line → List X) (none : (k : ℕ) (c : Claim) → pick (ClaimLine k c) ≡ []) (k : ℕ) (cs : List Claim) (rest : List Line) → flat_map pick (claim_lines k cs ++ rest) ≡ flat_map pick rest
claims_passed pick none k [] rest = refl
claims_passed pick none k (c ∷ cs) rest = rw (none k c, claims_passed pick none (k + 1) cs rest) refl

module _ (c : Certificate) where
  behind_claims : List Line
  behind_claims = map WindowLine c.windows ++ End ∷ []

  behind_needs : List Line
  behind_needs = claim_lines 0 c.claims ++ behind_claims

  behind_own : List Line
  behind_own = map NeedLine c.needs ++ behind_needs

  owns : flat_map own_in (lines_of c) ≡ c.own
  unfolding behind_own behind_needs behind_claims
  owns =
      picked own_in OwnLine (λ o. refl) c.own behind_own
      ∙ ap (λ w. c.own ++ w) (passed own_in NeedLine (λ n. refl) c.needs behind_needs ∙ claims_passed own_in (λ k d. refl) 0 c.claims behind_claims ∙ passed own_in WindowLine (λ w. refl) c.windows (End ∷ []))
      ∙ append-nil c.own

  needs : flat_map need_in (lines_of c) ≡ c.needs
  unfolding behind_own behind_needs behind_claims
  needs =
      passed need_in OwnLine (λ o. refl) c.own behind_own
      ∙ picked need_in NeedLine (λ n. refl) c.needs behind_needs
      ∙ ap (λ w. c.needs ++ w) (claims_passed need_in (λ k d. refl) 0 c.claims behind_claims ∙ passed need_in WindowLine (λ w. refl) c.windows (End ∷ []))
      ∙ append-nil c.needs

  claims : flat_map claim_in (lines_of c) ≡ c.claims
  unfolding behind_own behind_needs behind_claims
  claims =
      passed claim_in OwnLine (λ o. refl) c.own behind_own
      ∙ passed claim_in NeedLine (λ n. refl) c.needs behind_needs
      ∙ claims_picked 0 c.claims behind_claims
      ∙ ap (λ w. c.claims ++ w) (passed claim_in WindowLine (λ w. refl) c.windows (End ∷ []))
      ∙ append-nil c.claims

  windows : flat_map window_in (lines_of c) ≡ c.windows
  unfolding behind_own behind_needs behind_claims
  windows =
      passed window_in OwnLine (λ o. refl) c.own behind_own
      ∙ passed window_in NeedLine (λ n. refl) c.needs behind_needs
      ∙ claims_passed window_in (λ k d. refl) 0 c.claims behind_claims
      ∙ picked window_in WindowLine (λ w. refl) c.windows (End ∷ [])
      ∙ append-nil c.windows

  pub gathered_again : gathered (lines_of c) ≡ c
  gathered_again = rw (owns, needs, claims, windows) refl

-- certificates with the same lines are the same
pub same_certificate : (a b : Certificate) → lines_of a ≡ lines_of b → a ≡ b
same_certificate a b e = sym (gathered_again a) ∙ ap gathered e ∙ gathered_again b
