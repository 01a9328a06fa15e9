-- How the program writes words and numbers into a page.
--     Text       decimal numbers, lines of words, and text put into a page
--     Pages      a page, and text put into it behind what was put before
--     Filled     words with numbers among them
--     Phrases    a form of words, and its numbers
--     Promised   what is promised beside the contracts
pub mod Text
pub mod Pages
pub mod Filled
pub mod Phrases
pub mod Promised
