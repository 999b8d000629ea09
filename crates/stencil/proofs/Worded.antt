-- What comes of words that name no command.
use Rattle.std.proofs.Common.{◌≡◌, ◌≢◌, ◌⊎◌, ◌∙◌, sym, refl, ℕ, List, inl, inr}
use Rattle.clap.specs.declared.error.Error.{Error}
use Rattle.clap.specs.declared.error.kind.ErrorKind.{ErrorKind}
use Rattle.clap.specs.declared.error.kind.ErrorKind.TheVariants.{DisplayHelp, DisplayVersion, OutOfMemory}
use Rattle.clap.specs.Words.{IsAmong, Text, fault_of, kind_of}
use Rattle.commands.specs.Line.{FailsFor, line}
use Rattle.stencil.specs.Answer.{WordsAnswer}

-- a kind among those of the words' fault
among_answer : (words : List Text) (k : ErrorKind) (status : ℕ) → (k ≡ OutOfMemory → status ≡ 4)
    → (k ≡ DisplayHelp → (status ≡ 0) ⊎ (status ≡ 5)) → (k ≡ DisplayVersion → (status ≡ 0) ⊎ (status ≡ 5))
    → (k ≢ OutOfMemory → k ≢ DisplayHelp → k ≢ DisplayVersion → status ≡ 2)
    → IsAmong k (fault_of line words) → WordsAnswer words status
among_answer words OutOfMemory status memory help version misuse among = inr (inr (memory refl))
among_answer words DisplayHelp status memory help version misuse among = inl (help refl, inl among)
among_answer words DisplayVersion status memory help version misuse among = inl (version refl, inr among)
among_answer words k status memory help version misuse among =
    inr (inl (misuse (λ e. cc e) (λ e. cc e) (λ e. cc e), inl (k, (λ e. cc e), (λ e. cc e), among)))

pub answer_of : (words : List Text) (e : Error) (status : ℕ) → (kind_of e ≡ OutOfMemory → status ≡ 4)
    → (kind_of e ≡ DisplayHelp → (status ≡ 0) ⊎ (status ≡ 5)) → (kind_of e ≡ DisplayVersion → (status ≡ 0) ⊎ (status ≡ 5))
    → (kind_of e ≢ OutOfMemory → kind_of e ≢ DisplayHelp → kind_of e ≢ DisplayVersion → status ≡ 2)
    → FailsFor words e → WordsAnswer words status
answer_of words e status memory help version misuse (inl (inl none)) = inr (inr (memory none))
answer_of words e status memory help version misuse (inl (inr among)) = among_answer words (kind_of e) status memory help version misuse among
answer_of words e status memory help version misuse (inr (missing, nothing)) =
    inr (inl (misuse (λ h. cc (sym h ∙ missing)) (λ h. cc (sym h ∙ missing)) (λ h. cc (sym h ∙ missing)), inr nothing))
