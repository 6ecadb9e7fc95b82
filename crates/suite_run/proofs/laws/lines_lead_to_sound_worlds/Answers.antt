use Rattle.suite_run.proofs.WholeLines.{sound_worlds}
use Rattle.suite_run.proofs.laws.lines_lead_to_sound_worlds.Goals as goal

pub returns : goal.returns
returns c = sound_worlds c.what_is_read_is_whole.ensures c.every_list_of_lines_leads_to_a_sound_world.ensures
