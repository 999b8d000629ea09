-- The canonical text of an algorithm is read as the algorithm.
use Rattle.std.proofs.Common.{◌≡◌, ℕ, Bool, true, false, List, refl, sym, ap, subst, ◌∙◌}
use Rattle.std.proofs.Math.Logic.{∥∥₁_elim}
use Rattle.std.specs.List.{list_all}
use Rattle.tree.specs.declared.token.token.Token.{Token}
use Rattle.meaning.specs.Algorithm.{Algorithm}
use Rattle.meaning.specs.Conditions.{IsAlgorithm}
use Rattle.expr.specs.Statements.Grammar.{StandsFor, IsTextOf}
use Rattle.algo.specs.Refusal.{IsAlgorithmText, IsRead}
use Rattle.printer.specs.Tokens.{algorithm_tokens}
use Rattle.printer.specs.Spacing.{has_text, text_of}
use Rattle.printer.specs.Files.{file_of}
use Rattle.printer.specs.Written.{canonical_text}
use Rattle.printer.proofs.FileConverse.{algorithm_has_text, said_has_text}
use Rattle.printer.proofs.Lexing.{text_has_tokens}
use Rattle.printer.proofs.FileRules.{file_small, file_stands}
use Rattle.printer.proofs.Said.{says_back, follow_back}
use Rattle.printer.proofs.Unique.{only_file}

text_is : (a : Algorithm) → IsAlgorithm a → list_all has_text (algorithm_tokens a) ≡ true → IsTextOf (canonical_text a) (file_of a)
text_is a h all =
    let found = text_has_tokens (algorithm_tokens a) all in
    record { lexemes = found.lexemes; tokens = found.tokens; stands = subst (λ (ts : List Token). StandsFor ts (file_of a)) (sym found.same) (file_stands a h all) }

pub canonical_again : (a : Algorithm) → IsAlgorithm a → list_all has_text (algorithm_tokens a) ≡ true → IsAlgorithmText (canonical_text a) a
canonical_again a h all = record {
  file = file_of a;
  found = text_is a h all;
  only = λ other is. only_file (canonical_text a) (file_of a) other (file_small a h) (text_is a h all) is;
  said = sym (says_back a);
  kept = record { updates = follow_back a; algorithm = subst IsAlgorithm (sym (says_back a)) h };
}

-- each token of an algorithm that was read has a text
pub always_spelled : (a : Algorithm) (tokens : List Token) → tokens ≡ algorithm_tokens a → IsRead a → list_all has_text tokens ≡ true
always_spelled a tokens are read = of (list_all has_text tokens) refl
  where
    missing : list_all has_text tokens ≡ false → ((text : List ℕ) × IsAlgorithmText text a) → ⊥
    missing none (text, said) =
        let some = said_has_text text a said in
        let not_there : algorithm_has_text a ≡ false = ap (list_all has_text) (sym are) ∙ none in
        absurd cc

    of : (b : Bool) → list_all has_text tokens ≡ b → b ≡ true
    of true e = refl
    of false e = absurd (∥∥₁_elim read (λ x y. absurd x) (missing e))

-- what was written, by its tokens
pub written_again : (a : Algorithm) (tokens : List Token) (text : List ℕ) → IsAlgorithm a → IsRead a → tokens ≡ algorithm_tokens a → text ≡ text_of false tokens → IsAlgorithmText text a
written_again a tokens text h read are is =
    let all = always_spelled a tokens are read in
    subst (λ (t : List ℕ). IsAlgorithmText t a) (sym (is ∙ ap (text_of false) are)) (canonical_again a h (ap (list_all has_text) (sym are) ∙ all))
