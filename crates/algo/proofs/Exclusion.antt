-- A refused text is no algorithm.
use Rattle.std.proofs.Common.{◌≡◌, ℕ, ◌≤◌, ◌<◌, List, length, Result, Ok, Err, IfErr, inl, inr, refl, sym, ◌∙◌, subst, arith}
use Rattle.tree.specs.Term.{Term}
use Rattle.tree.specs.Token.Lexical.{max_text}
use Rattle.expr.specs.declared.statements.error.FormError.{FormError}
use Rattle.expr.specs.declared.statements.error.FormError.TheVariants as form
use Rattle.expr.specs.Statements.Text.{FileText}
use Rattle.expr.specs.Statements.Grammar.{IsTextOf}
use Rattle.expr.specs.Statements.Places.{IsRefused}
use Rattle.algo.specs.declared.error.AlgoError.{AlgoError}
use Rattle.algo.specs.declared.error.AlgoError.TheVariants.{Memory}
use Rattle.algo.specs.Saying.{IsWellFormed}
use Rattle.algo.specs.Refusal.{form_error, IsRefusedText, IsNoAlgorithm}
use Rattle.algo.proofs.Converse.{well_formed_breaks_nothing, well_formed_is_small}

-- a text whose form is refused, memory aside, stands for no well-formed file
form_refused : (text : List ℕ) (fault : FormError) → length text ≤ max_text → IsRefused text fault → (file : FileText Term) → IsTextOf text file → IsWellFormed file → form_error fault ≡ Memory
form_refused text form.Memory short h file found ok = refl
form_refused text (form.BadToken span) short h file found ok = absurd (h.1 file found)
form_refused text (form.BadForm span) short h file found ok = absurd (h.none file found)
form_refused text (form.TooLarge span) short (inl h) file found ok = absurd (let long : max_text < length text = h.long in omega arith)
form_refused text (form.TooLarge span) short (inr (inl h)) file found ok = absurd (h.none file found)
form_refused text (form.TooLarge span) short (inr (inr h)) file found ok = absurd (h.none file found (well_formed_is_small file ok))

pub refused_excludes : (text : List ℕ) (e : AlgoError) → IsRefusedText text e → IsNoAlgorithm text e
refused_excludes text e (inl h) short a is = h.is ∙ form_refused text h.fault short h.refused is.file is.found is.kept
refused_excludes text e (inr h) short a is = well_formed_breaks_nothing h.file e h.broken (subst IsWellFormed (sym (is.only h.file h.found)) is.kept)

pub error_excludes : {A : Type 0} (text : List ℕ) (r : Result A AlgoError) → IfErr r (IsRefusedText text) → IfErr r (IsNoAlgorithm text)
error_excludes text (Ok a) h = h
error_excludes text (Err e) h = refused_excludes text e h
