use Rattle.run_machine.proofs.Lining.{lines_lead}
use Rattle.run_machine.proofs.laws.every_list_of_lines_leads_to_a_sound_world.Goals as goal

pub returns : goal.returns
returns c = lines_lead c.every_list_of_events_leads_to_a_sound_world.ensures
