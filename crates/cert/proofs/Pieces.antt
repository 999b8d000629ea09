-- Texts that are written piece by piece.
use Rattle.std.proofs.Common.{◌≡◌, ℕ, ◌+◌, List, [], ◌∷◌, ◌++◌, map, length, take, get_or, refl, sym, ap, ◌∙◌, append_assoc, arith, ◌<◌}
use Rattle.std.proofs.lemmas.List.{append-nil, map-append, length-map, length-take-le}
use Rattle.std.proofs.lemmas.Grind.{take_at_read}
use Rattle.spelling.specs.Lines.Lines.{whole_line}
use Rattle.plan.specs.declared.certificate.cert.Claim.{Claim as CodeClaim}
use Rattle.plan.specs.Certificate.Certificate.{Claim, claim_of}
use Rattle.cert.specs.Lines.{Line, ClaimLine, claim_lines}
use Rattle.cert.specs.Spelling.{line_text, claim_text}
use Rattle.cert.specs.Notation.{text_of}

pub text_of-append : (a b : List Line) → text_of (a ++ b) ≡ text_of a ++ text_of b
text_of-append [] b = refl
text_of-append (l ∷ a) b = ap (λ (w : List ℕ). whole_line (line_text l) ++ w) (text_of-append a b) ∙ sym (append_assoc (whole_line (line_text l)) (text_of a) (text_of b))

pub claims_push : (k : ℕ) (cs : List Claim) (c : Claim) → claim_lines k (cs ++ c ∷ []) ≡ claim_lines k cs ++ ClaimLine (k + length cs) c ∷ []
claims_push k [] c = let z : k ≡ k + 0 = omega arith in ap (λ (n : ℕ). ClaimLine n c ∷ []) z
claims_push k (d ∷ cs) c =
    let z : k + 1 + length cs ≡ k + length (d ∷ cs) = omega arith in
    ap (λ (ls : List Line). ClaimLine k d ∷ ls) (claims_push (k + 1) cs c ∙ ap (λ (n : ℕ). claim_lines (k + 1) cs ++ ClaimLine n c ∷ []) z)

-- a turn of the loop that writes claims
pub claims_step : (old : List ℕ) (cs : List CodeClaim) (i : ℕ) (d : CodeClaim) (so_far line whole : List ℕ) → i < length cs → d ≡ get_or cs i d
    → so_far ≡ old ++ text_of (claim_lines 0 (map claim_of (take i cs))) → line ≡ so_far ++ claim_text i (claim_of d) → whole ≡ line ++ 10 ∷ []
    → whole ≡ old ++ text_of (claim_lines 0 (map claim_of (take (i + 1) cs)))
claims_step old cs i d so_far line whole lt is e f g =
    let front = map claim_of (take i cs) in
    let more : take (i + 1) cs ≡ take i cs ++ d ∷ [] = (take_at_read cs i d lt).1 ∙ ap (λ (x : CodeClaim). take i cs ++ x ∷ []) (sym is) in
    let size : 0 + length front ≡ i = omega (arith, length-map (take i cs) claim_of, length-take-le i cs (omega (arith, lt))) in
    let lines : claim_lines 0 (map claim_of (take (i + 1) cs)) ≡ claim_lines 0 front ++ ClaimLine i (claim_of d) ∷ [] =
    ap (λ (xs : List CodeClaim). claim_lines 0 (map claim_of xs)) more
    ∙ ap (claim_lines 0) (map-append claim_of (take i cs) (d ∷ []))
    ∙ claims_push 0 front (claim_of d)
    ∙ ap (λ (n : ℕ). claim_lines 0 front ++ ClaimLine n (claim_of d) ∷ []) size in
    let text : text_of (claim_lines 0 (map claim_of (take (i + 1) cs))) ≡ text_of (claim_lines 0 front) ++ whole_line (claim_text i (claim_of d)) =
    ap text_of lines ∙ text_of-append (claim_lines 0 front) (ClaimLine i (claim_of d) ∷ [])
    ∙ ap (λ (w : List ℕ). text_of (claim_lines 0 front) ++ w) (append-nil (whole_line (claim_text i (claim_of d)))) in
    let end : whole ≡ so_far ++ whole_line (claim_text i (claim_of d)) = g ∙ ap (λ (w : List ℕ). w ++ 10 ∷ []) f ∙ append_assoc so_far (claim_text i (claim_of d)) (10 ∷ []) in
    end ∙ ap (λ (w : List ℕ). w ++ whole_line (claim_text i (claim_of d))) e ∙ append_assoc old (text_of (claim_lines 0 front)) (whole_line (claim_text i (claim_of d)))
    ∙ ap (λ (w : List ℕ). old ++ w) (sym text)
