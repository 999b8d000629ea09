-- What is known of a result that has an error, and why a text or an image is refused.
use Rattle.std.proofs.Common.{◌≡◌, ℕ, List, Option, Result, Err, IfErr, sym, subst}
use Rattle.algo.specs.declared.error.AlgoError.{AlgoError}
use Rattle.algo.specs.declared.error.AlgoError.TheVariants as no_text
use Rattle.algo.specs.Refusal.{IsNoAlgorithm, IsRefusedText}
use Rattle.meaning.specs.Image.View.{Frame}
use Rattle.pnm.specs.declared.error.PnmError.{PnmError}
use Rattle.pnm.specs.declared.error.PnmError.TheVariants as image
use Rattle.pnm.specs.Reading.{wanted_of}
use Rattle.pnm.specs.Source.{Refuses}
use Rattle.commands.specs.declared.pipeline.fault.Fault.{Fault}
use Rattle.commands.specs.Pipeline.Faults.{image_fault, text_fault}
use Rattle.commands.specs.Pipeline.Texts.{IsImageRefused, IsTextRefused}

-- what is known of an error is known of a result that has it
pub told : {T : Type 0} (P : Fault → Type 0) (r : Result T Fault) (f e : Fault) → r ≡ Err f → f ≡ e → P e → IfErr r P
told {T} P r f e is same h = subst (λ (x : Result T Fault). IfErr x P) (sym is) (subst P (sym same) h)

pub algorithm_refused : (text : List ℕ) (e : AlgoError) → IsRefusedText text e → IsNoAlgorithm text e → IsTextRefused text (text_fault e)
algorithm_refused text no_text.Memory h none = tt
algorithm_refused text (no_text.Refused code span) h none = (h, none)

-- what pnm's reader answers as a refusal of the program
pub refuses_image : (f : Frame) (old new : Option (List ℕ)) (e : PnmError) → Refuses (wanted_of f) old new e → IsImageRefused f old new (image_fault e)
refuses_image f old new image.Magic h = (λ q. cc, h)
refuses_image f old new image.Malformed h = (λ q. cc, h)
refuses_image f old new image.OtherImage h = (λ q. cc, h)
refuses_image f old new image.AboveMax h = (λ q. cc, h)
refuses_image f old new image.TooShort h = (λ q. cc, h)
refuses_image f old new image.Trailing h = (λ q. cc, h)
refuses_image f old new image.Device h = (λ q. cc, h)
refuses_image f old new image.Memory h = h
