use Rattle.interpreter.proofs.run_reading.RunReading.look_pixels.Goals as goal

pub returns-in_ok-take_pixels-in-Some : goal.returns-in_ok-take_pixels-in-Some
returns-in_ok-take_pixels-in-Some c = λ k lt. c.in-Some.ensures _ _ (c.in_ok-take_pixels-in-Some.ensures k lt)
