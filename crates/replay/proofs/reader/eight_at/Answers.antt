use Rattle.std.proofs.Common.{rules, take, drop}
use Rattle.replay.proofs.Reading.{row_of_calls}
use Rattle.replay.proofs.reader.eight_at.Goals as goal

pub returns : goal.returns
returns c = row_of_calls _ _ c.from_fn.result (take c.args.n (drop c.args.offset c.args.words.now)) (λ i y f k. (search rules, search rules)) c.from_fn.ensures.items
