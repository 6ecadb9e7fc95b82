use Rattle.cl_types.proofs.DottedTexts.{dotted_text_is_written}
use Rattle.cl_types.proofs.laws.decimals_have_one_text.Goals as goal

pub returns : goal.returns
returns c = dotted_text_is_written
