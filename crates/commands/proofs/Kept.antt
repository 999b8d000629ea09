-- Files that stay as they are, step after step.
use Rattle.std.proofs.Common.{◌≡◌, ◌∙◌, sym, ℕ, List, Option, None, Some, inl, inr, refl, Result, Ok, Err}
use Rattle.std.specs.Prelude.{IfErr, MatchResult, OnOk}
use Rattle.std.specs.Io.KnownBytes.{Appends, Keeps}
use Rattle.commands.specs.declared.pipeline.fault.Fault.{Fault}
use Rattle.commands.specs.Pipeline.Pictures.{IsDone}
use Rattle.commands.specs.declared.device.FileError.{FileError}
use Rattle.commands.specs.declared.device.FileError.TheVariants.{Device, Memory}
use Rattle.commands.specs.Files.{Contents, Holds, IsPut, Puts, SameFiles, SameOthers}
use Rattle.commands.specs.Pictures.{IsOfDevice, IsUnput}
use Rattle.commands.specs.Status.{fault_of}

pub same_refl : (a : Contents) → SameFiles a a
same_refl None = tt
same_refl (Some at) = λ name. refl

pub same_then : (a b c : Contents) → SameFiles a b → SameFiles b c → SameFiles a c
same_then None b c h k = tt
same_then (Some at) None c h k = absurd h
same_then (Some at) (Some now) None h k = absurd k
same_then (Some at) (Some now) (Some last) h k = λ name. k name ∙ h name

-- what a file holds afterwards it held before
pub held_before : (a b : Contents) (name bytes : List ℕ) → SameFiles a b → Holds b name bytes → Holds a name bytes
held_before None b name bytes h k = tt
held_before (Some at) None name bytes h k = absurd h
held_before (Some at) (Some now) name bytes h k = sym (h name) ∙ k

pub others_then : (a b c : Contents) (name : List ℕ) → SameFiles a b → SameOthers b c name → SameOthers a c name
others_then None b c name h k = tt
others_then (Some at) None c name h k = absurd h
others_then (Some at) (Some now) None name h k = absurd k
others_then (Some at) (Some now) (Some last) name h k = λ other differs. k other differs ∙ h other

-- bytes were made while all files stayed, and were put, or not
module _ (old mid new : Contents) (name : List ℕ) (Is : List ℕ → Type 0) (bytes : List ℕ) (same : SameFiles old mid) (made : Is bytes) where
  pub put_then : Puts mid new name bytes → IsPut old new name Is
  put_then put = (bytes, made, (put.0, others_then old mid new name same put.1))

  pub unput_then : (Why : Fault → Type 0) (fault : Fault) → IsOfDevice fault × SameOthers mid new name → IsUnput old new name Is Why fault
  unput_then Why fault kept = inr (kept.0, others_then old mid new name same kept.1, (bytes, made))

-- a file's error is of the device or of memory
pub of_device : (e : FileError) (fault : Fault) → fault ≡ fault_of e → IsOfDevice fault
of_device Device fault is = inr is
of_device Memory fault is = inl is

-- what holds in both outcomes, from what holds in each
pub ends_of : {E : Type 0} (P : Type 0) (Q : E → Type 0) (r : Result (Unit {0}) E) → OnOk r P → IfErr r Q → MatchResult r (λ _. P) Q
ends_of P Q (Ok u) done refused = done
ends_of P Q (Err e) done refused = refused

-- what holds in any case holds where all went well
pub on_ok : {A E : Type 0} (P : Type 0) (r : Result A E) → P → OnOk r P
on_ok P (Ok a) h = h
on_ok P (Err e) h = tt

appends_then : (a b c : Option (List ℕ)) (bytes : List ℕ) → Appends a b bytes → Keeps b c → Appends a c bytes
appends_then None b c bytes h k = tt
appends_then (Some xs) None c bytes h k = absurd h
appends_then (Some xs) (Some ys) None bytes h k = absurd k
appends_then (Some xs) (Some ys) (Some zs) bytes h k = k ∙ h

-- what a writer holds it still holds where it hands it on
pub done_then : (text : List ℕ) (file : List ℕ) (read left held mid holds : Option (List ℕ)) → IsDone text file read left held mid → Keeps mid holds → IsDone text file read left held holds
done_then text file read left held mid holds d k = record {
  algorithm = d.algorithm;
  samples = d.samples;
  is_text = d.is_text;
  ready = d.ready;
  reads = d.reads;
  writes = appends_then held mid holds _ d.writes k;
}
