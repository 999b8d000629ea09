use Rattle.interpreter.proofs.run_reading.RunReading.look_samples.Goals as goal

pub returns-in_ok-take_samples-in-Some : goal.returns-in_ok-take_samples-in-Some
returns-in_ok-take_samples-in-Some c = λ k lt. c.in-Some.ensures _ _ (c.in_ok-take_samples-in-Some.ensures k lt)
