-- Why the text of a plan is refused of which the checker tells limits alone.
use Rattle.std.proofs.Common.{◌≡◌, ◌∙◌, ℕ, refl, sym, inl, inr, List, subst}
use Rattle.meaning.specs.Algorithm.{Algorithm}
use Rattle.sched.specs.Schedule.{Schedule}
use Rattle.soundness.specs.declared.outline.refusals.code.K.{K}
use Rattle.soundness.specs.declared.outline.refusals.code.K.TheVariants.{K1, K2, K3, K4, K5, K6, K7, K8, K9, K10, K11, K12, K13, K14}
use Rattle.soundness.specs.Outline.Refusals.Codes.{number_of}
use Rattle.plan.specs.Plan.{Plan}
use Rattle.plan.specs.View.{plan_of}
use Rattle.plan.specs.declared.plan.Plan.{Plan as PlanMade}
use Rattle.plan.specs.declared.certificate.cert.Cert.{Cert}
use Rattle.plan.specs.Certificate.Certificate.{Certificate, certificate_of}
use Rattle.spelling.specs.declared.lines.error.TextError.TheVariants as read
use Rattle.cert.specs.File.File.{IsFileOf, IsRefusedFile}
use Rattle.lower.specs.declared.lowering.Lowered.{Lowered}
use Rattle.completeness.specs.Fitting.{SplitsOnce}
use Rattle.completeness.specs.Told.{SplitsPlainly, TellsLimitsAlone}
use Rattle.completeness.specs.OfPlans.{file_text, IsFileOfPlan, AreStoresSmall}
use Rattle.commands.specs.declared.pipeline.fault.Fault.{Fault}
use Rattle.commands.specs.declared.pipeline.fault.Fault.TheVariants.{Memory, Algo, Schedule as NoSchedule, Rule, Names, Plan as Refused, Form, Limit}
use Rattle.commands.specs.declared.pipeline.fault.Fault.TheVariants.{Order, Image, Budget, Unfinished, Outside, Uncut, Difference}
use Rattle.commands.specs.Pipeline.PlanFiles.{IsAccepted, IsWrong}
use Rattle.stencil.specs.Compiling.{IsCompiledPlan, IsLimit, IsNotCompiled, IsPlanText, IsRefusedPlan, IsUnaccepted, IsUnread, IsUnwritten}

-- loops that are split plainly are split once at most
splits_once : (a : Algorithm) (s : Schedule) → SplitsPlainly a s → SplitsOnce a s
splits_once a s plainly = record { whole = plainly.whole; once = plainly.once }

code_of : (code : K) → number_of code ≡ 14 → code ≡ K14
code_of K1 is = absurd cc
code_of K2 is = absurd cc
code_of K3 is = absurd cc
code_of K4 is = absurd cc
code_of K5 is = absurd cc
code_of K6 is = absurd cc
code_of K7 is = absurd cc
code_of K8 is = absurd cc
code_of K9 is = absurd cc
code_of K10 is = absurd cc
code_of K11 is = absurd cc
code_of K12 is = absurd cc
code_of K13 is = absurd cc
code_of K14 is = refl

module _ (text : List ℕ) (made : Lowered) where
  abbrev p : Plan
  p = plan_of made.plan

  abbrev c : Certificate
  c = certificate_of made.certificate

  module _ (file : IsFileOfPlan p c) (written : text ≡ file_text p c) where
    -- the text is read as no other plan than the one that was made
    pub same_plan : (q : Plan) (d : Certificate) → IsFileOf text q d → (q ≡ p) × (d ≡ c)
    same_plan q d read = file.alone q d (subst (λ t. IsFileOf t q d) written read)

    unread_is_limit : (line : ℕ) → IsUnread text line → IsRefusedFile text (read.Limit line)
    unread_is_limit line (inl form) = absurd (file.formed line (subst (λ t. IsRefusedFile t (read.Form line)) written form))
    unread_is_limit line (inr limit) = limit

    -- where its stores are small, it is read
    pub read_wrong : (a : Algorithm) → AreStoresSmall p → (fault : Fault) → IsUnaccepted a text fault → (code : K) (line : ℕ) → fault ≡ Refused code line → IsWrong a text code line
    read_wrong a small fault h code line is = of (subst (IsUnaccepted a text) is h)
      where
        of : IsUnaccepted a text (Refused code line) → IsWrong a text code line
        of (inl wrong) = wrong
        of (inr unread) = absurd (file.limited line (subst (λ t. IsRefusedFile t (read.Limit line)) written (unread_is_limit line unread.1)) (file.short small))

    module _ (a : Algorithm) (limits : TellsLimitsAlone a p c) where
      -- what is wrong with the text is wrong with that plan
      wrong_is_limit : (code : K) (line : ℕ) → IsWrong a text code line → code ≡ K14
      wrong_is_limit code line wrong =
          let same = same_plan (plan_of wrong.plan) (certificate_of wrong.cert) wrong.file in
          let of_plan : TellsLimitsAlone a (plan_of wrong.plan) c = subst (λ q. TellsLimitsAlone a q c) (sym same.0) limits in
          let of_both : TellsLimitsAlone a (plan_of wrong.plan) (certificate_of wrong.cert) = subst (λ d. TellsLimitsAlone a (plan_of wrong.plan) d) (sym same.1) of_plan in
          code_of code (of_both (number_of code) line wrong.refused.0)

      pub is_limit : (fault : Fault) → IsUnaccepted a text fault → IsLimit a text fault
      is_limit Memory h = tt
      is_limit (Refused code line) (inl wrong) = (wrong_is_limit code line wrong, inl wrong)
      is_limit (Refused code line) (inr unread) = (unread.0, inr (unread_is_limit line unread.1))
      is_limit (Form line) h = absurd h
      is_limit (Limit line) h = absurd h
      is_limit (Algo code span) h = absurd h
      is_limit (NoSchedule code span) h = absurd h
      is_limit (Rule rule function) h = absurd h
      is_limit Names h = absurd h
      is_limit Order h = absurd h
      is_limit (Image e) h = absurd h
      is_limit Budget h = absurd h
      is_limit (Unfinished piece) h = absurd h
      is_limit Outside h = absurd h
      is_limit (Uncut name) h = absurd h
      is_limit Difference h = absurd h

module _ (a : Algorithm) (s : Schedule) where
  -- where there is no text of a plan, there is no plan file
  pub unwritten : (fault : Fault) → IsUnwritten a s fault → IsNotCompiled a s fault
  unwritten fault (inl memory) = inl memory
  unwritten fault (inr refused) = inr (inl refused)

  -- a text is that of the plan where it is read of the file of that plan
  pub text_of_plan : (text file : List ℕ) → text ≡ file → IsPlanText a s file → IsPlanText a s text
  text_of_plan text file is h = record { made = h.made; lowered = h.lowered; written = is ∙ h.written }

  -- what is told of the text of the plan that was made
  pub is_refused : (text : List ℕ) (fault : Fault) → IsPlanText a s text → IsUnaccepted a text fault → IsRefusedPlan a s fault
  is_refused text fault h refused = record {
    text = text;
    of_schedule = h;
    refused = refused;
    limit = λ splits. is_limit text h.made (h.lowered.file (splits_once a s splits)) h.written a (h.lowered.limits splits) fault refused;
    wrong = λ splits small. read_wrong text h.made (h.lowered.file splits) h.written a (h.lowered.stores splits.whole small) fault refused;
  }

  pub is_compiled : (text : List ℕ) (plan : PlanMade) (cert : Cert) → IsPlanText a s text → IsAccepted a text plan cert → IsCompiledPlan a s plan cert
  is_compiled text plan cert h accepted = record {
    text = text;
    of_schedule = h;
    accepted = accepted;
    same = λ splits. same_plan text h.made (h.lowered.file splits) h.written (plan_of plan) (certificate_of cert) accepted.file;
  }
