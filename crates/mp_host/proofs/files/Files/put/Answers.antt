use Rattle.std.proofs.Common.{◌∙◌}
use Rattle.mp_host.proofs.Contents.{content_of-put, content_of-others}
use Rattle.mp_host.proofs.files.Files.put.Goals as goal

pub returns-clause-put : goal.returns-clause-put
returns-clause-put c = content_of-put _ _ _ _ _ c.in_ok-push.ensures.ok (c.in_ok-copy_of.ensures ∙ c.as_bytes.ensures.value) c.in_ok-copy_of-2.ensures

pub returns-clause-others : goal.returns-clause-others
returns-clause-others c = λ other ne. content_of-others _ _ _ _ other c.in_ok-push.ensures.ok (c.in_ok-copy_of.ensures ∙ c.as_bytes.ensures.value) ne
