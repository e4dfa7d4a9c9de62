-- A `&` to a reader is made of a borrow of its share of the token. Assumes `Logic`.
use Rattle.lot_c.proofs.Lemmas.{Lends-loan, RawPtr-copy, RawPtr-field, copy_shared, handle-shares_laws, handle_shares, of_Lends}
use Rattle.lot_c.specs.contracts.reader.Reader as reader
use Rattle.lot_c.proofs.reader.Reader.TheLaw.Statement.{statement}

pub shares : statement
shares =
    of_Lends reader.struct reader.the_codes reader.the_heap reader.the_lent (λ d p. handle-shares_laws d.at d.kernel)
    (copy_shared RawPtr-field RawPtr-copy, tt)
    (λ M 𝓤 𝓛 d p.
    Lends-loan 𝓛 (handle_shares d.at d.kernel) (handle-shares_laws d.at d.kernel) d.life d.share reader.the_row.lives)
