-- What is done, and what stands after a refusal, step by step of the way from a text to a picture.
use Rattle.std.proofs.Common.{◌≡◌, inl, inr, ℕ, List, [], Option, Err, refl, sym, subst}
use Rattle.std.specs.Io.KnownBytes.{Appends}
use Rattle.std.proofs.KnownBytes.{Consumes-nil, Keeps-refl}
use Rattle.meaning.specs.Image.View.{Picture}
use Rattle.meaning.specs.Algorithm.{Algorithm}
use Rattle.plan.specs.View.{plan_of}
use Rattle.plan.specs.declared.plan.Plan.{Plan as PlanMade}
use Rattle.plan.specs.declared.certificate.cert.Cert.{Cert}
use Rattle.plan.specs.Certificate.Certificate.{certificate_of}
use Rattle.algo.specs.Parts.{input_frame}
use Rattle.algo.specs.Refusal.{IsAlgorithmText}
use Rattle.algo.specs.View.{picture_said}
use Rattle.audit.specs.declared.refusal.CheckError.{CheckError}
use Rattle.audit.specs.declared.refusal.CheckError.TheVariants as check
use Rattle.audit.specs.Refused.{IsRefused as IsRefusedPlan}
use Rattle.spelling.specs.declared.lines.error.TextError.{TextError}
use Rattle.spelling.specs.declared.lines.error.TextError.TheVariants as error
use Rattle.cert.specs.File.File.{IsFileOf, IsRefusedFile}
use Rattle.plain.specs.declared.error.PlainError.{PlainError}
use Rattle.plain.specs.declared.error.PlainError.TheVariants as plain
use Rattle.plain.specs.Picture.{SomeAbove}
use Rattle.pnm.specs.declared.error.PnmError.{PnmError}
use Rattle.pnm.specs.Reading.{wanted_of}
use Rattle.pnm.specs.Source.{ReadsFile, Sends}
use Rattle.pnm.specs.Text.{text_of}
use Rattle.commands.specs.declared.pipeline.fault.Fault.{Fault}
use Rattle.commands.specs.declared.pipeline.fault.Fault.TheVariants.{Memory, Algo, Schedule, Rule, Names, Plan, Form, Limit, Order, Image, Budget, Unfinished, Outside, Uncut, Difference}
use Rattle.commands.specs.Pipeline.Faults.{image_fault, plain_fault, plan_fault, read_fault}
use Rattle.commands.specs.Pipeline.Texts.{IsImageRefused, IsTextRefused}
use Rattle.commands.specs.Pipeline.PlanFiles.{HasPlan, IsFileRefused}
use Rattle.commands.specs.Pipeline.Pictures.{IsBudgetSpent, IsDone, IsRefused}

-- what the reader of plan files, the checker and `plain` answer as refusals of the program
pub refuses_file : (a : Algorithm) (file : List ℕ) (e : TextError) → IsRefusedFile file e → IsFileRefused a file (read_fault e)
refuses_file a file error.Memory h = tt
refuses_file a file (error.Form line) h = h
refuses_file a file (error.Limit line) h = h

pub refuses_plan : (a : Algorithm) (file : List ℕ) (plan : PlanMade) (cert : Cert) (e : CheckError) → IsFileOf file (plan_of plan) (certificate_of cert)
    → IsRefusedPlan a (plan_of plan) (certificate_of cert) e → IsFileRefused a file (plan_fault e)
refuses_plan a file plan cert check.Memory said h = tt
refuses_plan a file plan cert (check.Refused code line) said h = record { plan = plan; cert = cert; file = said; refused = h }

pub refuses_pixel : (a : Algorithm) (samples : List ℕ) (most : ℕ) (e : PlainError) → (e ≡ plain.Budget → SomeAbove a samples most) → IsBudgetSpent a samples most (plain_fault e)
refuses_pixel a samples most plain.Memory h = tt
refuses_pixel a samples most plain.Budget h = h refl

module _ (text : List ℕ) (read held : Option (List ℕ)) where
  -- nothing is read or written before the text and the plan file are accepted
  pub text_refused : (file : List ℕ) (fault : Fault) → IsTextRefused text fault → IsRefused text file read read held held fault
  text_refused file Memory h = (([], Consumes-nil read), Keeps-refl held)
  text_refused file (Algo code span) h = (h, (Keeps-refl read, Keeps-refl held))
  text_refused file (Schedule code span) h = absurd h
  text_refused file (Rule rule function) h = absurd h
  text_refused file Names h = absurd h
  text_refused file (Plan code line) h = absurd h
  text_refused file (Form line) h = absurd h
  text_refused file (Limit line) h = absurd h
  text_refused file Order h = absurd h
  text_refused file (Image e) h = absurd h
  text_refused file Budget h = absurd h
  text_refused file (Unfinished piece) h = absurd h
  text_refused file Outside h = absurd h
  text_refused file (Uncut name) h = absurd h
  text_refused file Difference h = absurd h

  pub file_refused : (file : List ℕ) (a : Algorithm) (fault : Fault) → IsAlgorithmText text a → IsFileRefused a file fault → IsRefused text file read read held held fault
  file_refused file a Memory said h = (([], Consumes-nil read), Keeps-refl held)
  file_refused file a (Algo code span) said h = absurd h
  file_refused file a (Schedule code span) said h = absurd h
  file_refused file a (Rule rule function) said h = absurd h
  file_refused file a Names said h = absurd h
  file_refused file a (Plan code line) said h = (record { algorithm = a; is_text = said; refused = h }, (Keeps-refl read, Keeps-refl held))
  file_refused file a (Form line) said h = (record { algorithm = a; is_text = said; refused = h }, (Keeps-refl read, Keeps-refl held))
  file_refused file a (Limit line) said h = (record { algorithm = a; is_text = said; refused = h }, (Keeps-refl read, Keeps-refl held))
  file_refused file a Order said h = absurd h
  file_refused file a (Image e) said h = absurd h
  file_refused file a Budget said h = absurd h
  file_refused file a (Unfinished piece) said h = absurd h
  file_refused file a Outside said h = absurd h
  file_refused file a (Uncut name) said h = absurd h
  file_refused file a Difference said h = absurd h

module _ (text : List ℕ) (file : List ℕ) (a : Algorithm) (said : IsAlgorithmText text a) (ready : HasPlan a file) (read left held : Option (List ℕ)) where
  -- nothing is written before the image is read whole
  pub image_refused : (fault : Fault) → IsImageRefused (input_frame a) read left fault → IsRefused text file read left held held fault
  image_refused Memory h = (h, Keeps-refl held)
  image_refused (Algo code span) h = absurd h
  image_refused (Schedule code span) h = absurd h
  image_refused (Rule rule function) h = absurd h
  image_refused Names h = absurd h
  image_refused (Plan code line) h = absurd h
  image_refused (Form line) h = absurd h
  image_refused (Limit line) h = absurd h
  image_refused Order h = absurd h
  image_refused (Image e) h = inl (record { algorithm = a; is_text = said; ready = ready; refused = h }, Keeps-refl held)
  image_refused Budget h = absurd h
  image_refused (Unfinished piece) h = absurd h
  image_refused Outside h = absurd h
  image_refused (Uncut name) h = absurd h
  image_refused Difference h = absurd h

  module _ (samples : List ℕ) (reads : ReadsFile (wanted_of (input_frame a)) read left samples) where
    -- nothing is written where there is no memory for the picture
    pub no_memory : (fault : Fault) → fault ≡ Memory → IsRefused text file read left held held fault
    no_memory fault is = subst (IsRefused text file read left held held) (sym is) ((reads.bytes, reads.takes), Keeps-refl held)

    module _ (holds : Option (List ℕ)) (p : Picture) (whole : p ≡ picture_said a samples) where
      pub writer_failed : (e : PnmError) → Sends held holds (text_of p) (Err e) → IsRefused text file read left held holds (image_fault e)
      writer_failed e h =
          let sends = subst (λ (q : Picture). Sends held holds (text_of q) (Err e)) whole h in
          subst (λ (x : PnmError). IsRefused text file read left held holds (image_fault x)) (sym h.0)
          (inr (refl, record { algorithm = a; samples = samples; is_text = said; ready = ready; reads = reads; writes = subst (λ (x : PnmError). Sends held holds (text_of (picture_said a samples)) (Err x)) h.0 sends }))

      pub picture_done : Appends held holds (text_of p) → IsDone text file read left held holds
      picture_done h = record { algorithm = a; samples = samples; is_text = said; ready = ready; reads = reads; writes = subst (λ (q : Picture). Appends held holds (text_of q)) whole h }
