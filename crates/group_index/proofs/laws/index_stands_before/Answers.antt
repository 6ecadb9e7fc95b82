use Rattle.group_index.proofs.Standing.{before_namespace_put, before_namespace_removed, before_pod_put, before_pod_removed}
use Rattle.group_index.proofs.laws.index_stands_before.Goals as goal

pub returns-clause-pod_put : goal.returns-clause-pod_put
returns-clause-pod_put c = before_pod_put c.undoes_take_back.ensures.one

pub returns-clause-pod_removed : goal.returns-clause-pod_removed
returns-clause-pod_removed c = before_pod_removed c.undoes_take_back.ensures.one

pub returns-clause-namespace_put : goal.returns-clause-namespace_put
returns-clause-namespace_put c = before_namespace_put c.undoes_take_back.ensures.one

pub returns-clause-namespace_removed : goal.returns-clause-namespace_removed
returns-clause-namespace_removed c = before_namespace_removed c.undoes_take_back.ensures.one
