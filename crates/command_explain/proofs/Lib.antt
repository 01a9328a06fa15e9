-- The proof of what `specs/Promised.antt` promises, and the laws that it cites.
--     SheetLaws    the code on bytes
--     SumLaws      how large A* is
--     NumberLaws   the number of the explanation
--     PlaceLaws    the place of the first fault
--     KindLaws     what may stand at a place
--     ListedLaws   the lists of 4, place by place
--     QuietLaws    the phrases where another number is given
--     RangeLaws    4 over the bytes
--     SaidLaws     what is shown of a header's field
pub mod SheetLaws
pub mod SumLaws
pub mod NumberLaws
pub mod PlaceLaws
pub mod KindLaws
pub mod ListedLaws
pub mod QuietLaws
pub mod RangeLaws
pub mod SaidLaws
pub mod Promised
