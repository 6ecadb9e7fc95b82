use Rattle.std.proofs.Common.{◌∙◌, sym, ap, map, option_map}
use Rattle.std.proofs.lemmas.Result.{IfOk-weaker}
use Rattle.clap.specs.Words.{found_of}
use Rattle.command_words.proofs.Matches.{files_of}
use Rattle.command_words.proofs.read.files.Goals as goal

pub returns-in-Some : goal.returns-in-Some
returns-in-Some c = IfOk-weaker c.texts.result _ _ (λ l is. is ∙ files_of (found_of c.args.matches.now) _
    (ap (option_map (λ s. map (λ v. v.now) s.now)) (sym c.in-Some.is) ∙ c.get_strs.ensures)) c.texts.ensures

pub returns-in-None : goal.returns-in-None
returns-in-None c = c.of.ensures ∙ (c.new.ensures.items ∙ files_of (found_of c.args.matches.now) _
    (ap (option_map (λ s. map (λ v. v.now) s.now)) (sym c.in-None.is) ∙ c.get_strs.ensures))
