use Rattle.std.specs.Str.Parse.{ParsesUnsigned, ExplainsUnsignedError, HasUnsignedDigitsIfOk}
use Rattle.clap.specs.Words.{found_of}
use Rattle.command_words.proofs.Matches.{ring_is}
use Rattle.command_words.proofs.read.ring.Goals as goal

pub returns-clause-value : goal.returns-clause-value
returns-clause-value c = ring_is (λ bs r. ParsesUnsigned 32 10 bs r × ExplainsUnsignedError 10 bs r × HasUnsignedDigitsIfOk bs r) (λ t n g. g.0.1)
    (found_of c.args.matches.now) c.get_one.result c.in-Some.ring c.in-Some.is c.get_one.ensures.none c.get_one.ensures.value
