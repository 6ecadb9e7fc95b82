use Rattle.std.proofs.Common.{◌≡◌, rules, false, is_none, ap, ◌∙◌}
use Rattle.cl_io.specs.Memory.{file_place, name_place, first_place}
use Rattle.cl_io.proofs.InMemory.{tried_adds, readable_after, taken_adds}
use Rattle.cl_io.proofs.mem_files.MemFilesFiles.begin.Goals as goal

pub returns-then-is_none-clause-tries : goal.returns-then-is_none-clause-tries
returns-then-is_none-clause-tries c =
    let name = c.args.name.now in
    let file = c.file_at-file.ensures ∙ ap (λ z. file_place z name) c.as_slice.ensures in
    let missing = c.name_at-missing.ensures ∙ ap (λ z. name_place z name) c.as_slice-2.ensures in
    let place = c.place_of.ensures ∙ (ap (λ z. first_place z c.name_at-missing.result) file ∙ ap (first_place (file_place c.args.self.now.files name)) missing) in
    record { told = search rules; tried = tried_adds c.args.self.now.files c.args.self.now.missing name _ _ _ _ _ c.place_of.result place c.begin.ensures.told c.begin.ensures.tried }

pub invariant_of-self-else-is_none : goal.invariant_of-self-else-is_none
invariant_of-self-else-is_none c =
    let name = c.args.name.now in
    let file = c.file_at-file.ensures ∙ ap (λ z. file_place z name) c.as_slice.ensures in
    record {
      readable = readable_after c.args.self.now.files name c.fails-fails.result c.file_at-file.result c.unless-begun.result _ _ file c.unless-begun.ensures c.begin.ensures.current c.args.self.now.readable;
    }

pub returns-clause-tries : goal.returns-clause-tries
returns-clause-tries c =
    let name = c.args.name.now in
    let file = c.file_at-file.ensures ∙ ap (λ z. file_place z name) c.as_slice.ensures in
    let missing = c.name_at-missing.ensures ∙ ap (λ z. name_place z name) c.as_slice-2.ensures in
    let place = c.place_of.ensures ∙ (ap (λ z. first_place z c.name_at-missing.result) file ∙ ap (first_place (file_place c.args.self.now.files name)) missing) in
    record { told = search rules; tried = tried_adds c.args.self.now.files c.args.self.now.missing name _ _ _ _ _ c.place_of.result place c.begin.ensures.told c.begin.ensures.tried }

pub returns-clause-begun : goal.returns-clause-begun
returns-clause-begun c =
    let name = c.args.name.now in
    let file = c.file_at-file.ensures ∙ ap (λ z. file_place z name) c.as_slice.ensures in
    let begun : is_none c.unless-begun.result ≡ false = search rules in
    taken_adds c.args.self.now.files name c.fails-fails.result _ _ _ _ c.file_at-file.result c.unless-begun.result _ _ file c.unless-begun.ensures begun c.begin.ensures.told c.begin.ensures.parts
