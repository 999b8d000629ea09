-- What comes of the schedule of a file, and of the file of its plan.
use Rattle.std.proofs.Common.{List, ℕ, inl, inr}
use Rattle.meaning.specs.Algorithm.{Algorithm}
use Rattle.commands.specs.declared.pipeline.fault.Fault.{Fault}
use Rattle.commands.specs.Asked.{AskedCompile}
use Rattle.commands.specs.Files.{Contents, SameFiles}
use Rattle.commands.specs.Sources.{IsAlgorithmFile, IsNoAlgorithmFile}
use Rattle.commands.proofs.Kept.{others_then, same_then}
use Rattle.stencil.proofs.Compiled.{schedule_before, schedule_fault_before}
use Rattle.stencil.specs.Compiles.{IsCompiled, IsDone, IsPlanOfFile, IsPlanPut, IsPlanUnput, IsReason, IsRefused, IsUncompiled}

module _ (old : Contents) (a : AskedCompile) where
  pub compile_unread : (new : Contents) (fault : Fault) → SameFiles old new → IsNoAlgorithmFile old a.algorithm fault → IsRefused old new a fault
  compile_unread new fault same (inl device) = inl (same, inl device)
  compile_unread new fault same (inr h) = inl (same, inr (inl (record { text = h.0; holds_text = h.1; refused = h.2 })))

  module _ (x : Algorithm) (said : IsAlgorithmFile old a.algorithm x) (mid : Contents) (same : SameFiles old mid) where
    uncompiled : (fault : Fault) → IsUncompiled mid x a.schedule fault → IsReason old a fault
    uncompiled fault (inl h) =
        inr (inr (inl (record { text = said.0; algorithm = x; holds_text = said.1; is_text = said.2; refused = schedule_fault_before old mid a.schedule fault same h })))
    uncompiled fault (inr h) = inr (inr (inr (record {
      text = said.0;
      algorithm = x;
      schedule = h.0;
      holds_text = said.1;
      is_text = said.2;
      scheduled = schedule_before old mid a.schedule h.0 same h.1;
      refused = h.2;
    })))

    whole : (bytes : List ℕ) → IsPlanOfFile mid x a.schedule bytes → IsCompiled old a bytes
    whole bytes h = record {
      text = said.0;
      algorithm = x;
      schedule = h.schedule;
      holds_text = said.1;
      is_text = said.2;
      scheduled = schedule_before old mid a.schedule h.schedule same h.scheduled;
      of_schedule = h.of_schedule;
      planned = h.planned;
    }

    pub compile_refused : (new : Contents) (fault : Fault) → IsPlanUnput mid new a x fault → IsRefused old new a fault
    compile_refused new fault (inl h) = inl (same_then old mid new same h.0, uncompiled fault h.1)
    compile_refused new fault (inr h) = inr (h.0, others_then old mid new a.plan same h.1, (h.2.0, whole h.2.0 h.2.1))

    pub plan_put : (new : Contents) → IsPlanPut mid new a x → IsDone old new a
    plan_put new h = (h.0, whole h.0 h.1, (h.2.0, others_then old mid new a.plan same h.2.1))
