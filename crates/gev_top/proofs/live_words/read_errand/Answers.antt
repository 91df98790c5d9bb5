use Rattle.std.specs.String.{string_bytes}
use Rattle.gev_top.proofs.Named.{named_first}
use Rattle.gev_top.proofs.live_words.read_errand.Goals as goal

pub returns-in-len1-up-clause-said : goal.returns-in-len1-up-clause-said
returns-in-len1-up-clause-said c =
    named_first c.args.words.now (λ word. string_bytes word) c.name-item.result c.as_bytes.result.now c.read_errand_named.result c.in-len1-up.len_at_least
    c.name-item.is c.as_bytes.ensures.value c.read_errand_named.ensures.said
