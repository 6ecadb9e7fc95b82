use Rattle.label_select.proofs.NameBytes.{namespace_name-no_slash, object_name-no_slash}
use Rattle.label_select.proofs.forms.names_have_no_slash.Goals as goal

pub returns-clause-namespaces : goal.returns-clause-namespaces
returns-clause-namespaces c = namespace_name-no_slash

pub returns-clause-objects : goal.returns-clause-objects
returns-clause-objects c = object_name-no_slash
