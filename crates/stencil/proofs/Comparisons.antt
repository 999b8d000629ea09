-- What comes of comparing all schedules.
use Rattle.std.proofs.Common.{◌≡◌, ◌⊎◌, ◌^◌, inl, inr, false, ℕ, List, All, Ok}
use Rattle.clap.specs.Words.{Text}
use Rattle.meaning.specs.Algorithm.{Algorithm}
use Rattle.algo.specs.Parts.{input_frame}
use Rattle.algo.specs.Refusal.{IsAlgorithmText}
use Rattle.pnm.specs.Reading.{reading, wanted_of}
use Rattle.commands.specs.declared.pipeline.fault.Fault.{Fault}
use Rattle.commands.specs.Asked.{AskedCompare}
use Rattle.stencil.specs.Compares.{IsCompared, IsCompareRefused, IsLegalFile, IsRefusedAmong}
use Rattle.commands.specs.Files.{Contents, Holds, SameFiles}
use Rattle.commands.specs.Pipeline.Pictures.{IsBudgetSpent}
use Rattle.commands.specs.Sources.{IsAlgorithmFile, IsNoAlgorithmFile, IsNoImageFile}
use Rattle.commands.proofs.Kept.{held_before}
use Rattle.stencil.proofs.Schedules.{legal_before, unplanned_before}

-- why the comparison does not begin
module _ (files : Contents) (a : AskedCompare) where
  pub compare_unread : (fault : Fault) → IsNoAlgorithmFile files a.algorithm fault → IsCompareRefused files a fault
  compare_unread fault (inl device) = inl device
  compare_unread fault (inr h) = inr (inl (record { text = h.0; holds_text = h.1; refused = h.2 }))

  pub image_unread : (al : Algorithm) → IsAlgorithmFile files a.algorithm al → (now : Contents) → SameFiles files now → (fault : Fault) → IsNoImageFile now a.input al fault
      → IsCompareRefused files a fault
  image_unread al said now same fault (inl device) = inl device
  image_unread al said now same fault (inr h) = inr (inr (inl (record {
    text = said.0;
    algorithm = al;
    image = h.0;
    holds_text = said.1;
    is_text = said.2;
    holds_image = held_before files now a.input h.0 same h.1;
    refused = h.2;
  })))

all_before : (files now : Contents) (al : Algorithm) (names : List Text) → SameFiles files now → All (IsLegalFile now al) names → All (IsLegalFile files al) names
all_before files now al names same h = λ k d lt. legal_before files now al _ same (h k d lt)

among_before : (files now : Contents) (al : Algorithm) (names : List Text) (fault : Fault) → SameFiles files now → IsRefusedAmong now al names fault → IsRefusedAmong files al names fault
among_before files now al names fault same h = record {
  place = h.place;
  name = h.name;
  named = h.named;
  before = all_before files now al _ same h.before;
  refused = unplanned_before files now al h.name fault same h.refused;
}

module _ (files now : Contents) (a : AskedCompare) (al : Algorithm) (text image samples : List ℕ) (same : SameFiles files now) (holds_text : Holds files a.algorithm text)
    (is_text : IsAlgorithmText text al) (holds_image : Holds files a.input image) (is_image : reading (wanted_of (input_frame al)) image ≡ Ok samples) where
  pub all_compared : All (IsLegalFile now al) a.schedules → IsCompared files a
  all_compared h = record {
    text = text;
    algorithm = al;
    image = image;
    samples = samples;
    holds_text = holds_text;
    is_text = is_text;
    holds_image = holds_image;
    is_image = is_image;
    schedules = all_before files now al a.schedules same h;
  }

  -- why the schedules were not compared: the plain picture, which was asked for, was not computed, or one of them is refused
  abbrev pub IsUncompared : Fault → Type 0
  IsUncompared fault = ((a.by_first ≡ false) × IsBudgetSpent al samples (2 ^ 32) fault) ⊎ IsRefusedAmong now al a.schedules fault

  pub one_refused : (fault : Fault) → IsUncompared fault → IsCompareRefused files a fault
  one_refused fault (inl h) = inr (inr (inr (inl (record {
    text = text;
    algorithm = al;
    image = image;
    samples = samples;
    holds_text = holds_text;
    is_text = is_text;
    holds_image = holds_image;
    is_image = is_image;
    by_plain = h.0;
    refused = h.1;
  }))))
  one_refused fault (inr among) = inr (inr (inr (inr (record {
    text = text;
    algorithm = al;
    image = image;
    samples = samples;
    holds_text = holds_text;
    is_text = is_text;
    holds_image = holds_image;
    is_image = is_image;
    refused = among_before files now al a.schedules fault same among;
  }))))
