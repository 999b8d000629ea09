use Rattle.interpreter.proofs.run_reading.RunReading.look_places.Goals as goal

pub returns-in_ok-take_numbers-in-Some : goal.returns-in_ok-take_numbers-in-Some
returns-in_ok-take_numbers-in-Some c = λ k lt. c.in-Some.ensures _ _ (c.in_ok-take_numbers-in-Some.ensures k lt)
