use Rattle.group_index.proofs.stretch.in_order.Goals as goal

pub returns-else-a-b : goal.returns-else-a-b
returns-else-a-b c = λ p q r es both is_a is_b. c.behind-else-a-b.ensures q p r es (λ e off_q off_p. both e off_p off_q) is_b is_a
