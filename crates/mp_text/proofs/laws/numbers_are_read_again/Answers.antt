use Rattle.mp_text.proofs.Spelled.{number_is_read, positive_is_read, negative_is_read}
use Rattle.mp_text.proofs.laws.numbers_are_read_again.Goals as goal

pub returns : goal.returns
returns c = λ n h. record { number = number_is_read n h; positive = λ k. positive_is_read n k h; negative = λ k. negative_is_read n k h }
